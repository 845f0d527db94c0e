-- A server by a clock that shows a constant more does the same, with each of its times greater by as much.
use Rattle.std.proofs.Common.{◌≡◌, ℕ, ◌+◌, ◌-◌, ◌*◌, ◌/◌, ◌≤◌, max, Bool, true, false, cond, ltb, List, [], ◌∷◌, ◌++◌, map, length, take, zero, suc, Option, Some, None, Result, Ok, Err, refl, sym, ap, ◌∙◌, subst, arith, inl, inr, lt-ltb, le-ltb}
use Rattle.std.specs.Prelude.{nat_eq, nat_lt, ◌&&◌}
use Rattle.std.proofs.lemmas.Bool.{cases_Bool}
use Rattle.std.proofs.lemmas.Bool.Decides.{leb_tells}
use Rattle.std.proofs.lemmas.List.{length-map, map-append}
use Rattle.std.proofs.lemmas.List.Elements.{All-map}
use Rattle.std.proofs.Math.Nat.{add-max-add_right}
use Rattle.std.proofs.Math.ListN.{get_or-map}
use Rattle.nbt_name.specs.Wire.{NameValue, same_name}
use Rattle.nbt_name.specs.declared.addr.Kind.TheVariants.{Unique}
use Rattle.nbt_packet.specs.Message.{MessageValue, query, found}
use Rattle.nbt_packet.specs.Text.{entry, entries_most}
use Rattle.nbt_lease.specs.Config.{ConfigValue, granted}
use Rattle.nbt_lease.proofs.Rows.{row_lives, row_of_other, row_over, count_lives, count_over, none_live, none_count, same_leases}
use Rattle.nbt_lease.proofs.Owned.{none_of, row_counts, row_passes}
use Rattle.nbt_lease.specs.Lease.{Rows, leases_at, live_count, count_of, is_live, at_name, HasNone, AreGroup}
use Rattle.nbt_lease.specs.Rules.{Asked, IsAllowed, free, member, owner, end_of, grant_until, begun, renewed, GrantCase, active, renews, group_full, table_full, begins, Grants, ReleaseCase, gone, no_lease, of_others, Releases, IsLeastEnd}
use Rattle.nbt_lease.specs.declared.lease.Released.TheVariants.{Gone, NoLease, OfOthers}
use Rattle.nbt_server.specs.Serving.{Grant, Lease, Released, GrantFault, Leases, TableValue, ServerValue, speaks_from, seconds_until, entries, listed, found_reply, refusal, server_error, asked_in, Serves, registers, refuses, refuses_overwrite, releases, refuses_release, finds, finds_none, passes_over, NeedsMemory, IsFull, IsOverLimit, ServesOctets, is_silent, is_no_message, turns_away, serves}
use Rattle.nbt_server.specs.Outcomes.{holder, refusal_by, release_outcome, claim, claim_in, done_by, IsDone}
use Rattle.nbt_server.specs.Calls.{ServerTakes, ServerHandles, ServerForgets}
use Rattle.nbt_lease.specs.declared.fault.GrantFault.TheVariants as faults
use Rattle.nbt_server.specs.declared.outcome.Claim.{Claim}
use Rattle.nbt_server.specs.declared.outcome.Refusal.TheVariants as why
use Rattle.nbt_server.specs.declared.outcome.Outcome.{Outcome}
use Rattle.nbt_server.specs.declared.outcome.Outcome.TheVariants as o
use Rattle.nbt_server.specs.Shifted.{shifted_lease, shifted_leases, shifted_table, shifted_server, TellsAlike, DoesAlike, StartsAlike}

swap : (a more c : ℕ) → a + more + c ≡ a + c + more
swap a more c = omega arith

ltb_shifted : (a b more : ℕ) → ltb (a + more) (b + more) ≡ ltb a b
ltb_shifted a b more = elim (leb_tells b a) [
  | inl within ↦ rw (le-ltb a b within.1, le-ltb (a + more) (b + more) (omega (arith, within.1))) refl
  | inr other ↦ rw (lt-ltb a b other.1, lt-ltb (a + more) (b + more) (omega (arith, other.1))) refl
]

-- ---- leases

module _ (more : ℕ) where
  abbrev shifts : List Lease → List Lease
  shifts leases = map (shifted_lease more) leases

  abbrev shifted_row : NameValue × Lease → NameValue × Lease
  shifted_row row = (row.0, shifted_lease more row.1)

  module _ (now : ℕ) where
    lives_yet : (lease : Lease) → is_live (now + more) (shifted_lease more lease) ≡ is_live now lease
    lives_yet lease = ltb_shifted now lease.end more

    here_alike : (row : NameValue × Lease) (rows : Rows) (name : NameValue) → leases_at (now + more) (map shifted_row rows) name ≡ shifts (leases_at now rows name)
        → leases_at (now + more) (shifted_row row ∷ map shifted_row rows) name ≡ shifts (leases_at now (row ∷ rows) name)
    here_alike row rows name rest = elim (cases_Bool (same_name row.0 name)) [
      | inr other ↦ row_of_other (now + more) (shifted_row row) (map shifted_row rows) name other ∙ rest ∙ ap shifts (sym (row_of_other now row rows name other))
      | inl named ↦ elim (cases_Bool (is_live now row.1)) [
        | inl live ↦ row_lives (now + more) (shifted_row row) (map shifted_row rows) name named (lives_yet row.1 ∙ live) ∙ ap (λ (xs : List Lease). shifted_lease more row.1 ∷ xs) rest
            ∙ ap shifts (sym (row_lives now row rows name named live))
        | inr over ↦ row_over (now + more) (shifted_row row) (map shifted_row rows) name (lives_yet row.1 ∙ over) ∙ rest ∙ ap shifts (sym (row_over now row rows name over))
      ]
    ]

    lives_alike : (rows : Rows) (name : NameValue) → leases_at (now + more) (map shifted_row rows) name ≡ shifts (leases_at now rows name)
    lives_alike [] name = none_live (now + more) name ∙ ap shifts (sym (none_live now name))
    lives_alike (row ∷ rows) name = here_alike row rows name (lives_alike rows name)

    pub leases_alike : (rows : Rows) → leases_at (now + more) (map shifted_row rows) ≡ shifted_leases more (leases_at now rows)
    leases_alike rows = same_leases (leases_at (now + more) (map shifted_row rows)) (shifted_leases more (leases_at now rows)) (lives_alike rows)

    counts_alike : (row : NameValue × Lease) (rows : Rows) → live_count (now + more) (map shifted_row rows) ≡ live_count now rows
        → live_count (now + more) (shifted_row row ∷ map shifted_row rows) ≡ live_count now (row ∷ rows)
    counts_alike row rows rest = elim (cases_Bool (is_live now row.1)) [
      | inl live ↦ count_lives (now + more) (shifted_row row) (map shifted_row rows) (lives_yet row.1 ∙ live) ∙ ap (λ (n : ℕ). suc n) rest ∙ sym (count_lives now row rows live)
      | inr over ↦ count_over (now + more) (shifted_row row) (map shifted_row rows) (lives_yet row.1 ∙ over) ∙ rest ∙ sym (count_over now row rows over)
    ]

    pub count_alike : (rows : Rows) → live_count (now + more) (map shifted_row rows) ≡ live_count now rows
    count_alike [] = none_count (now + more) ∙ sym (none_count now)
    count_alike (row ∷ rows) = counts_alike row rows (count_alike rows)

    -- whether a row counts for an address
    owned_yet : (addr : ℕ) (lease : Lease) → (nat_eq (shifted_lease more lease).addr addr && is_live (now + more) (shifted_lease more lease)) ≡ (nat_eq lease.addr addr && is_live now lease)
    owned_yet addr lease = ap (λ (b : Bool). nat_eq lease.addr addr && b) (lives_yet lease)

    owned_alike : (addr : ℕ) (rows : Rows) → count_of (now + more) addr (map shifted_row rows) ≡ count_of now addr rows
    owned_alike addr [] = none_of (now + more) addr ∙ sym (none_of now addr)
    owned_alike addr (row ∷ rows) =
        let rest = owned_alike addr rows in
        elim (cases_Bool (nat_eq row.1.addr addr && is_live now row.1)) [
          | inl counts ↦ row_counts (now + more) addr (shifted_row row) (map shifted_row rows) (owned_yet addr row.1 ∙ counts) ∙ ap (λ (n : ℕ). suc n) rest ∙ sym (row_counts now addr row rows counts)
          | inr passes ↦ row_passes (now + more) addr (shifted_row row) (map shifted_row rows) (owned_yet addr row.1 ∙ passes) ∙ rest ∙ sym (row_passes now addr row rows passes)
        ]

  -- ---- what is said of a name's leases

  none_alike : (addr : ℕ) (leases : List Lease) → HasNone addr leases → HasNone addr (shifts leases)
  none_alike addr [] none = tt
  none_alike addr (lease ∷ leases) none = (none.0, none_alike addr leases none.1)

  none_there : (addr : ℕ) (leases : List Lease) → HasNone addr (shifts leases) → HasNone addr leases
  none_there addr [] none = tt
  none_there addr (lease ∷ leases) none = (none.0, none_there addr leases none.1)

  group_alike : (leases : List Lease) → AreGroup leases → AreGroup (shifts leases)
  group_alike [] group = tt
  group_alike (lease ∷ leases) group = (group.0, group_alike leases group.1)

  group_back : (leases : List Lease) → AreGroup (shifts leases) → AreGroup leases
  group_back [] group = tt
  group_back (lease ∷ leases) group = (group.0, group_back leases group.1)

  allowed_alike : (a : Asked) (leases : List Lease) → IsAllowed a leases → IsAllowed a (shifts leases)
  allowed_alike a leases (free none) = free (ap shifts none)
  allowed_alike a leases (member group kind) = member (group_alike leases group) kind
  allowed_alike a leases (owner lease is addr was kind) = owner (shifted_lease more lease) (ap shifts is) addr was kind

  none_back : (leases : List Lease) → shifts leases ≡ [] → leases ≡ []
  none_back [] e = refl
  none_back (lease ∷ leases) e = absurd cc

  owner_back : (a : Asked) (leases : List Lease) (lease : Lease) → shifts leases ≡ lease ∷ [] → lease.addr ≡ a.addr → lease.kind ≡ Unique → a.kind ≡ Unique → IsAllowed a leases
  owner_back a [] lease e addr was kind = absurd cc
  owner_back a (one ∷ leases) lease e addr was kind =
      let head : shifted_lease more one ≡ lease = cc in
      let tail : shifts leases ≡ [] = cc in
      owner one (ap (λ (xs : List Lease). one ∷ xs) (none_back leases tail)) (ap (λ (l : Lease). l.addr) head ∙ addr) (ap (λ (l : Lease). l.kind) head ∙ was) kind

  allowed_back : (a : Asked) (leases : List Lease) → IsAllowed a (shifts leases) → IsAllowed a leases
  allowed_back a leases (free none) = free (none_back leases none)
  allowed_back a leases (member group kind) = member (group_back leases group) kind
  allowed_back a leases (owner lease is addr was kind) = owner_back a leases lease is addr was kind

  shifts_back : (xs ys : List Lease) → shifts xs ≡ shifts ys → xs ≡ ys
  shifts_back [] [] e = refl
  shifts_back [] (y ∷ ys) e = absurd cc
  shifts_back (x ∷ xs) [] e = absurd cc
  shifts_back (x ∷ xs) (y ∷ ys) e =
      let head : shifted_lease more x ≡ shifted_lease more y = cc in
      let tail : shifts xs ≡ shifts ys = cc in
      let later : x.end + more ≡ y.end + more = ap (λ (l : Lease). l.end) head in
      let end : x.end ≡ y.end = omega (arith, later) in
      let rest = shifts_back xs ys tail in
      λ i. record { addr = (head i).addr; kind = (head i).kind; end = end i } ∷ rest i

  leases_back : (f g : Leases) → shifted_leases more f ≡ shifted_leases more g → f ≡ g
  leases_back f g e = same_leases f g (λ name. shifts_back (f name) (g name) (ap (λ (h : Leases). h name) e))

  at_name_alike : (name : NameValue) (leases : List Lease) (others : Leases) → shifted_leases more (at_name name leases others) ≡ at_name name (shifts leases) (shifted_leases more others)
  at_name_alike name leases others = same_leases _ _ (λ q. chosen (same_name q name) q)
    where
      chosen : (t : Bool) (q : NameValue) → shifts (cond t leases (others q)) ≡ cond t (shifts leases) (shifts (others q))
      chosen true q = refl
      chosen false q = refl

  -- ---- grants

  abbrev shifted_grant : Grant → Grant
  shifted_grant grant = record grant { end = grant.end + more }

  abbrev shifted_result : Result Grant GrantFault → Result Grant GrantFault
  shifted_result (Ok grant) = Ok (shifted_grant grant)
  shifted_result (Err fault) = Err fault

  module _ (config : ConfigValue) (now : ℕ) (a : Asked) where
    end_alike : end_of config (now + more) a ≡ end_of config now a + more
    end_alike = swap now more (1000 * granted config.longest a.ttl)

    renewed_alike : (lease : Lease) → max (lease.end + more) (end_of config (now + more) a) ≡ max lease.end (end_of config now a) + more
    renewed_alike lease = ap (λ (n : ℕ). max (lease.end + more) n) end_alike ∙ add-max-add_right lease.end (end_of config now a) more

    module _ (count : ℕ) (leases : List Lease) where
      length_alike : length (shifts leases) ≡ length leases
      length_alike = length-map leases (shifted_lease more)

      case_alike : (result : Result Grant GrantFault) (after : List Lease) → GrantCase config now count a leases result after → GrantCase config (now + more) count a (shifts leases) (shifted_result result) (shifts after)
      case_alike _ _ (active refused) = active (λ allowed. refused (allowed_back a leases allowed))
      case_alike _ _ (renews allowed before after lease is own) =
          let end = renewed_alike lease in
          let there : shifts leases ≡ shifts before ++ shifted_lease more lease ∷ shifts after = ap shifts is ∙ map-append (shifted_lease more) before (lease ∷ after) in
          let then_is : shifts (before ++ renewed config now a lease ∷ after) ≡ shifts before ++ renewed config (now + more) a (shifted_lease more lease) ∷ shifts after
          = map-append (shifted_lease more) before (renewed config now a lease ∷ after) ∙ (λ i. shifts before ++ record lease { end = sym end i } ∷ shifts after) in
          let grant_is : grant_until config a (max (lease.end + more) (end_of config (now + more) a)) true ≡ shifted_grant (grant_until config a (max lease.end (end_of config now a)) true)
          = λ i. grant_until config a (end i) true in
          subst (λ (g : Grant). GrantCase config (now + more) count a (shifts leases) (Ok g) (shifts (before ++ renewed config now a lease ∷ after))) grant_is
          (subst (λ (xs : List Lease). GrantCase config (now + more) count a (shifts leases) (Ok (grant_until config a (max (lease.end + more) (end_of config (now + more) a)) true)) xs) (sym then_is)
          (renews (allowed_alike a leases allowed) (shifts before) (shifts after) (shifted_lease more lease) there own))
      case_alike _ _ (group_full allowed none full) = group_full (allowed_alike a leases allowed) (none_alike a.addr leases none) (rw length_alike full)
      case_alike _ _ (table_full allowed none room full) = table_full (allowed_alike a leases allowed) (none_alike a.addr leases none) (rw length_alike room) full
      case_alike _ _ (begins allowed none room row) =
          let then_is : shifts (leases ++ begun config now a ∷ []) ≡ shifts leases ++ begun config (now + more) a ∷ []
          = map-append (shifted_lease more) leases (begun config now a ∷ []) ∙ (λ i. shifts leases ++ record { addr = a.addr; kind = a.kind; end = sym end_alike i } ∷ []) in
          let grant_is : grant_until config a (end_of config (now + more) a) false ≡ shifted_grant (grant_until config a (end_of config now a) false)
          = λ i. grant_until config a (end_alike i) false in
          subst (λ (g : Grant). GrantCase config (now + more) count a (shifts leases) (Ok g) (shifts (leases ++ begun config now a ∷ []))) grant_is
          (subst (λ (xs : List Lease). GrantCase config (now + more) count a (shifts leases) (Ok (grant_until config a (end_of config (now + more) a) false)) xs) (sym then_is)
          (begins (allowed_alike a leases allowed) (none_alike a.addr leases none) (rw length_alike room) row))

  release_alike : (addr : ℕ) (leases : List Lease) (result : Released) (after : List Lease) → ReleaseCase addr leases result after → ReleaseCase addr (shifts leases) result (shifts after)
  release_alike addr leases _ _ (gone before after lease is own) =
      subst (λ (xs : List Lease). ReleaseCase addr (shifts leases) Gone xs) (sym (map-append (shifted_lease more) before after))
      (gone (shifts before) (shifts after) (shifted_lease more lease) (ap shifts is ∙ map-append (shifted_lease more) before (lease ∷ after)) own)
  release_alike addr leases _ _ (no_lease none) = no_lease (ap shifts none)
  release_alike addr leases _ _ (of_others some none) = of_others (λ e. some (none_back leases e)) (none_alike addr leases none)

  -- ---- a table

  module _ (table : TableValue) (now : ℕ) where
    module _ (name : NameValue) where
      after_alike : (leases : List Lease) (after : Leases) → after ≡ at_name name leases (leases_at now table.rows)
          → shifted_leases more after ≡ at_name name (shifts leases) (leases_at (now + more) (shifted_table more table).rows)
      after_alike leases after is = ap (shifted_leases more) is ∙ at_name_alike name leases (leases_at now table.rows) ∙ ap (at_name name (shifts leases)) (sym (leases_alike now table.rows))

      grants_alike : (a : Asked) (result : Result Grant GrantFault) (after : Leases) → Grants table now name a result after → Grants (shifted_table more table) (now + more) name a (shifted_result result) (shifted_leases more after)
      grants_alike a result after x = record {
        leases = shifts x.leases;
        rule = rw (count_alike now table.rows, lives_alike now table.rows name) (case_alike table.config now a (live_count now table.rows) (leases_at now table.rows name) result x.leases x.rule);
        after_is = after_alike x.leases after x.after_is;
      }

      releases_alike : (addr : ℕ) (result : Released) (after : Leases) → Releases table now name addr result after → Releases (shifted_table more table) (now + more) name addr result (shifted_leases more after)
      releases_alike addr result after x = record {
        leases = shifts x.leases;
        rule = rw (lives_alike now table.rows name) (release_alike addr (leases_at now table.rows name) result x.leases x.rule);
        after_is = after_alike x.leases after x.after_is;
      }

    least_alike : (leases : List Lease) (end : ℕ) → IsLeastEnd leases (Some end) → IsLeastEnd (shifts leases) (Some (end + more))
    least_alike leases end least =
        let one = least.0 in (
          (one.0, shifted_lease more one.1, rw (length-map leases (shifted_lease more)) one.2, get_or-map (shifted_lease more) leases one.0 one.1 ∙ ap (shifted_lease more) one.3, ap (λ (n : ℕ). n + more) one.4),
          All-map (λ lease. end + more ≤ lease.end) (shifted_lease more) leases (λ k d within. let earlier = least.1 k d within in omega (arith, earlier)),
        )

    -- ---- a query: the same seconds are left, and the same entries are listed

    left_alike : (end : ℕ) → seconds_until (now + more) (end + more) ≡ seconds_until now end
    left_alike end = ap (λ (n : ℕ). (n + 999) / 1000) (both_less end)
      where
        both_less : (end : ℕ) → end + more - (now + more) ≡ end - now
        both_less end = omega arith

    entries_alike : (leases : List Lease) → entries (shifts leases) ≡ entries leases
    entries_alike [] = refl
    entries_alike (lease ∷ leases) = ap (λ (xs : List ℕ). entry lease.kind lease.addr ++ xs) (entries_alike leases)

    listed_alike : (name : NameValue) (leases : List Lease) → listed name (shifts leases) ≡ shifts (listed name leases)
    listed_alike name leases = taken (entries_most name) leases
      where
        taken : (count : ℕ) (leases : List Lease) → take count (shifts leases) ≡ shifts (take count leases)
        taken zero leases = refl
        taken (suc count) [] = refl
        taken (suc count) (lease ∷ leases) = ap (λ (xs : List Lease). shifted_lease more lease ∷ xs) (taken count leases)

    found_alike : (id : ℕ) (name : NameValue) (end : ℕ) (leases : List Lease) → found_reply id name (now + more) (end + more) (shifts leases) ≡ found_reply id name now end leases
    found_alike id name end leases =
        let left = left_alike end in
        let one = listed_alike name leases in
        let row : entries (listed name (shifts leases)) ≡ entries (listed name leases) = ap entries one ∙ entries_alike (listed name leases) in
        let part : length (listed name (shifts leases)) ≡ length (listed name leases) = ap (λ (xs : List Lease). length xs) one ∙ length-map (listed name leases) (shifted_lease more) in
        let whole : length (shifts leases) ≡ length leases = length-map leases (shifted_lease more) in
        λ i. found id name (left i) (row i) (nat_lt (part i) (whole i))

    holder_alike : (leases : List Lease) → holder (shifts leases) ≡ holder leases
    holder_alike [] = refl
    holder_alike (lease ∷ leases) = refl

    -- ---- a message

    module _ (ip : ℕ) where
      -- the same reply, and the same is reported
      abbrev RepliesAlike : MessageValue → Option MessageValue → Leases → Outcome → Type 0
      RepliesAlike m reply after outcome = (serves : Serves (shifted_table more table) (now + more) ip m reply after) × (done_by serves ≡ outcome)

      -- where the leases stay as they are
      as_before : (m : MessageValue) (reply : Option MessageValue) (outcome : Outcome) → RepliesAlike m reply (leases_at (now + more) (shifted_table more table).rows) outcome → RepliesAlike m reply (shifted_leases more (leases_at now table.rows)) outcome
      as_before m reply outcome x = subst (λ (after : Leases). RepliesAlike m reply after outcome) (leases_alike now table.rows) x

      holder_there : (name : NameValue) → holder (leases_at (now + more) (shifted_table more table).rows name) ≡ holder (leases_at now table.rows name)
      holder_there name = ap holder (lives_alike now table.rows name) ∙ holder_alike (leases_at now table.rows name)

      refusal_there : (name : NameValue) (fault : GrantFault) → refusal_by (leases_at (now + more) (shifted_table more table).rows name) fault ≡ refusal_by (leases_at now table.rows name) fault
      refusal_there name faults.Active = ap why.Active (holder_there name)
      refusal_there name faults.GroupFull = refl
      refusal_there name fault = refl

      release_there : (name : NameValue) (c : Claim) (result : Released) → release_outcome (leases_at (now + more) (shifted_table more table).rows name) c result ≡ release_outcome (leases_at now table.rows name) c result
      release_there name c Gone = refl
      release_there name c NoLease = refl
      release_there name c OfOthers = ap (λ (addr : ℕ). o.NotReleased c (why.Active addr)) (holder_there name)

      serves_alike : (m : MessageValue) (reply : Option MessageValue) (after : Leases) (x : Serves table now ip m reply after) → RepliesAlike m reply (shifted_leases more after) (done_by x)
      serves_alike m _ after (registers _ r (Ok grant) _ asks own rule) = (registers m r (Ok (shifted_grant grant)) (shifted_leases more after) asks own (grants_alike r.name (asked_in r) (Ok grant) after rule), refl)
      serves_alike m _ after (registers _ r (Err fault) _ asks own rule) =
          (registers m r (Err fault) (shifted_leases more after) asks own (grants_alike r.name (asked_in r) (Err fault) after rule), ap (o.Refused (claim_in r)) (refusal_there r.name fault))
      serves_alike m _ _ (refuses _ r asks other) = as_before m _ _ (refuses m r asks other, refl)
      serves_alike _ _ _ (refuses_overwrite r) = as_before _ _ _ (refuses_overwrite r, refl)
      serves_alike _ _ after (releases id name kind addr result _ own rule) =
          (releases id name kind addr result (shifted_leases more after) own (releases_alike name addr result after rule), release_there name (claim name kind addr) result)
      serves_alike _ _ _ (refuses_release id name kind addr other) = as_before _ _ _ (refuses_release id name kind addr other, refl)
      serves_alike _ _ _ (finds id name end least) =
          let live = lives_alike now table.rows name in
          let leases = leases_at now table.rows name in
          let there : IsLeastEnd (leases_at (now + more) (shifted_table more table).rows name) (Some (end + more)) = rw live (least_alike leases end least) in
          let reply_is : found_reply id name (now + more) (end + more) (leases_at (now + more) (shifted_table more table).rows name) ≡ found_reply id name now end leases
          = ap (found_reply id name (now + more) (end + more)) live ∙ found_alike id name end leases in
          as_before _ _ _ (subst (λ (reply : MessageValue). RepliesAlike (query id name) (Some reply) (leases_at (now + more) (shifted_table more table).rows) (o.Found name)) reply_is (finds id name (end + more) there, refl))
      serves_alike _ _ _ (finds_none id name none) = as_before _ _ _ (finds_none id name (lives_alike now table.rows name ∙ ap shifts none), refl)
      serves_alike m _ _ (passes_over _ nodes) = as_before m _ _ (passes_over m nodes, refl)

-- ---- the limit of a client

module _ (more : ℕ) (client_rows : Option ℕ) (table : TableValue) (now ip : ℕ) where
  full_alike : (name : NameValue) → IsFull client_rows table now ip name → IsFull client_rows (shifted_table more table) (now + more) ip name
  full_alike name full = record {
    most = full.most;
    most_is = full.most_is;
    none = subst (HasNone ip) (sym (lives_alike more now table.rows name)) (none_alike more ip (leases_at now table.rows name) full.none);
    reached = let reached = full.reached in let same = owned_alike more now ip table.rows in omega (arith, reached, same);
  }

  full_there : (name : NameValue) → IsFull client_rows (shifted_table more table) (now + more) ip name → IsFull client_rows table now ip name
  full_there name full = record {
    most = full.most;
    most_is = full.most_is;
    none = none_there more ip (leases_at now table.rows name) (subst (HasNone ip) (lives_alike more now table.rows name) full.none);
    reached = let reached = full.reached in let same = owned_alike more now ip table.rows in omega (arith, reached, same);
  }

  abbrev over_alike : (m : MessageValue) → IsOverLimit client_rows table now ip m → IsOverLimit client_rows (shifted_table more table) (now + more) ip m
  over_alike m over = record { r = over.r; asks = over.asks; own = over.own; full = full_alike over.r.name over.full }

  over_there : (m : MessageValue) → IsOverLimit client_rows (shifted_table more table) (now + more) ip m → IsOverLimit client_rows table now ip m
  over_there m over = record { r = over.r; asks = over.asks; own = over.own; full = full_there over.r.name over.full }

-- ---- a server

module _ (more : ℕ) where
  speaks_alike : (server : ServerValue) → speaks_from (shifted_server more server) ≡ speaks_from server + more
  speaks_alike server = swap server.start more (1000 * server.table.config.longest)

  pub tells_alike : (server : ServerValue) (now : ℕ) → TellsAlike more server now
  tells_alike server now = record {
    leases = leases_alike more now server.table.rows;
    count = count_alike more now server.table.rows;
    silence = speaks_alike server;
  }

  pub starts_alike : StartsAlike more
  starts_alike config now server x = record {
    start = ap (λ (n : ℕ). n + more) x.start;
    last = ap (λ (n : ℕ). n + more) x.last;
    config_is = x.config_is;
    empty = ap (map (shifted_row more)) x.empty;
    no_limit = x.no_limit;
  }

  module _ (old : ServerValue) (now ip : ℕ) (octets : List ℕ) where
    -- the same reply, and what was done by the one was done by the other
    abbrev Alike : (reply : Option MessageValue) (before after : Leases) → ServesOctets old now ip octets reply before → Type 0
    Alike reply before after x = (y : ServesOctets (shifted_server more old) (now + more) ip octets reply after) × ((outcome : Outcome) → IsDone x outcome → IsDone y outcome)

    octets_alike : (reply : Option MessageValue) (after : Leases) (x : ServesOctets old now ip octets reply after) → Alike reply after (shifted_leases more after) x
    octets_alike _ _ (is_silent early) =
        subst (λ (then : Leases). Alike None (leases_at now old.table.rows) then (is_silent early)) (leases_alike more now old.table.rows)
        (is_silent (let later = speaks_alike old in omega (arith, early, later)), λ outcome done. done)
    octets_alike _ _ (is_no_message none) =
        subst (λ (then : Leases). Alike None (leases_at now old.table.rows) then (is_no_message none)) (leases_alike more now old.table.rows)
        (is_no_message none, λ outcome done. done)
    octets_alike _ _ (turns_away m speaks spelled over) =
        subst (λ (then : Leases). Alike (Some (refusal server_error over.r)) (leases_at now old.table.rows) then (turns_away m speaks spelled over)) (leases_alike more now old.table.rows)
        (turns_away m (let later = speaks_alike old in omega (arith, speaks, later)) spelled (over_alike more old.client_rows old.table now ip m over), λ outcome done. done)
    octets_alike _ _ (serves m reply after speaks spelled room does) =
        let x = serves_alike more old.table now ip m reply after does in
        (serves m reply (shifted_leases more after) (let later = speaks_alike old in omega (arith, speaks, later)) spelled (λ over. room (over_there more old.client_rows old.table now ip m over)) x.0, λ outcome done. done ∙ sym x.1)

    module _ (new : ServerValue) where
      there : (reply : Option MessageValue) (x : ServesOctets old now ip octets reply (leases_at now new.table.rows))
          → Alike reply (leases_at now new.table.rows) (leases_at (now + more) (shifted_server more new).table.rows) x
      there reply x = subst (λ (then : Leases). Alike reply (leases_at now new.table.rows) then x) (sym (leases_alike more now new.table.rows)) (octets_alike reply (leases_at now new.table.rows) x)

      takes_alike : (reply : Option MessageValue) → ServerTakes old now ip octets reply new → ServerTakes (shifted_server more old) (now + more) ip octets reply (shifted_server more new)
      takes_alike reply x = record {
        goes_on = let onward = x.goes_on in omega (arith, onward);
        serves = (there reply x.serves).0;
        spelled = x.spelled;
        start = ap (λ (n : ℕ). n + more) x.start;
        last = ap (λ (n : ℕ). n + more) x.last;
        config = x.config;
        limit = x.limit;
      }

      handles_alike : (outcome : Outcome) (out : List ℕ) → ServerHandles old now ip octets outcome out new → ServerHandles (shifted_server more old) (now + more) ip octets outcome out (shifted_server more new)
      unfolding takes_alike there
      handles_alike outcome out x = record {
        reply = x.reply;
        takes = takes_alike x.reply x.takes;
        done = (there x.reply x.takes.serves).1 outcome x.done;
        has_reply_is = x.has_reply_is;
        written = x.written;
      }

      -- leases that are as they were
      kept_alike : leases_at now new.table.rows ≡ leases_at now old.table.rows → leases_at (now + more) (shifted_server more new).table.rows ≡ leases_at (now + more) (shifted_server more old).table.rows
      kept_alike same = leases_alike more now new.table.rows ∙ ap (shifted_leases more) same ∙ sym (leases_alike more now old.table.rows)

      needs_alike : (m : MessageValue) → NeedsMemory old.table now ip m → NeedsMemory (shifted_server more old).table (now + more) ip m
      needs_alike m x = record {
        r = x.r;
        asks = x.asks;
        own = x.own;
        changes = record {
          result = shifted_grant more x.changes.result;
          after = shifted_leases more x.changes.after;
          rule = grants_alike more old.table now x.r.name (asked_in x.r) (Ok x.changes.result) x.changes.after x.changes.rule;
          other = λ same. x.changes.other (leases_back more x.changes.after (leases_at now old.table.rows) (same ∙ leases_alike more now old.table.rows));
        };
      }

      forgets_alike : ServerForgets old now ip octets new → ServerForgets (shifted_server more old) (now + more) ip octets (shifted_server more new)
      forgets_alike x = record {
        goes_on = let onward = x.goes_on in omega (arith, onward);
        message = x.message;
        speaks = let speaks = x.speaks in let later = speaks_alike old in omega (arith, speaks, later);
        spelled = x.spelled;
        room = λ over. x.room (over_there more old.client_rows old.table now ip x.message over);
        needs = needs_alike x.message x.needs;
        leases = kept_alike x.leases;
        start = ap (λ (n : ℕ). n + more) x.start;
        last = ap (λ (n : ℕ). n + more) x.last;
        config = x.config;
        limit = x.limit;
      }

      pub does_alike : DoesAlike more old now ip octets new
      does_alike = record { takes = takes_alike; handles = handles_alike; forgets = forgets_alike }
