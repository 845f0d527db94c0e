-- The exits of a grant and a release.
use Rattle.std.proofs.Common.{◌≡◌, ◌≢◌, ℕ, ◌<◌, ◌≤◌, ◌+◌, List, [], ◌∷◌, ◌++◌, length, max, Bool, true, false, Option, Some, None, is_some, MatchOption, Result, Ok, Err, OnErr, refl, sym, ap, ◌∙◌, subst, ⊎_elim, arith}
use Rattle.nbt_lease.proofs.Common.{filter, IsDistinct, keys_of, OnFalse, IfNone, both_ways, cases_lt, false≢true, length-append, NameValue, same_name, Lease, Grant, Released, Gone, GrantFault, OutOfMemory, Leases, TableValue, is_live, leases_at, live_count, members_most, at_name, HasNone, IsSound, Asked, IsAllowed, end_of, grant_until, begun, renewed, GrantCase, renews, begins, ReleaseCase, gone, Releases, Entries, members_of, living, rows_of, AreLive, Renewed, Moves, Ended, Standing, StandsIn, HoldsLive, Places}
use Rattle.nbt_lease.proofs.Counts.{same_count, live_at_most}
use Rattle.nbt_lease.proofs.Sound.{all_filter, sound_granted}
use Rattle.nbt_lease.proofs.Others.{here, some_there}
use Rattle.nbt_lease.proofs.Rows.{same_leases, at_same}
use Rattle.nbt_lease.proofs.Finding.{found_in}
use Rattle.nbt_lease.proofs.Flat.{live_left, all_counted, leases_members}
use Rattle.nbt_lease.proofs.Living.{living_rows}

-- ---- what is left where the leases that are over were taken out

pub record Left (now : ℕ) (old left : Entries) : Type 0 where
  pub same : leases_at now (rows_of left) ≡ leases_at now (rows_of old)
  pub all : live_count now (rows_of left) ≡ length (rows_of left)

pub left_over : (now : ℕ) (old left : Entries) → IsDistinct same_name (keys_of old) → IsDistinct same_name (keys_of left) → ((q : NameValue) → members_of left q ≡ filter (is_live now) (members_of old q)) → Left now old left
left_over now old left names names_left h =
    let live : (q : NameValue) → AreLive now (members_of left q) = λ q. subst (AreLive now) (sym (h q)) (live_left now (members_of old q)) in
    record {
      same = leases_members now left names_left live ∙ (same_leases (members_of left) (living now old) h ∙ sym (living_rows now old names));
      all = all_counted now left names_left live;
    }

-- what is left where some that are over were taken out: so few went only where no other is over
pub holds_live : (table : TableValue) (now : ℕ) (old left : Entries) → IsDistinct same_name (keys_of old) → IsDistinct same_name (keys_of left) → rows_of old ≡ table.rows → length (rows_of old) ≤ table.config.rows
    → ((q : NameValue) → living now left q ≡ living now old q) → (length (rows_of old) < length (rows_of left) + 64 → (q : NameValue) → AreLive now (members_of left q)) → HoldsLive table now left
holds_live table now old left names names_left is fits same over =
    let leases : living now left ≡ leases_at now table.rows = same_leases (living now left) (living now old) same ∙ (sym (living_rows now old names) ∙ ap (leases_at now) is) in
    record {
      leases = leases;
      full = λ most.
          let all : live_count now (rows_of left) ≡ length (rows_of left) = all_counted now left names_left (over (omega (arith, most, fits))) in
          omega (arith, most, all, same_count now (rows_of left) table.rows (living_rows now left names_left ∙ leases));
    }

-- the same leases live in another index, which is no larger
pub holds_on : (table : TableValue) (now : ℕ) (es fs : Entries) → HoldsLive table now es → living now fs ≡ living now es → length (rows_of fs) ≤ length (rows_of es) → HoldsLive table now fs
holds_on table now es fs holds same fewer = record { leases = same ∙ holds.leases; full = λ most. holds.full (omega (arith, most, fewer)) }

-- no more live than stand
pub room_beside : (table : TableValue) (now : ℕ) (es : Entries) → IsDistinct same_name (keys_of es) → HoldsLive table now es → length (rows_of es) < table.config.rows → live_count now table.rows < table.config.rows
room_beside table now es names holds room = omega (arith, room, live_at_most now (rows_of es), same_count now (rows_of es) table.rows (living_rows now es names ∙ holds.leases))

-- ---- one outcome of a call

pub err_is : {T E : Type 0} (r : Result T E) (P : Type 0) → ((x : T) → r ≡ Ok x → ⊥) → OnErr r P → P
err_is (Ok x) P never h = absurd (never x refl)
err_is (Err e) P never h = h

pub none_is : {T : Type 0} (r : Option T) (P : Type 0) → ((x : T) → r ≡ Some x → ⊥) → IfNone r P → P
none_is None P never h = h
none_is (Some x) P never h = absurd (never x refl)

pub false_is : (b : Bool) (P : Type 0) → b ≡ false → OnFalse b P → P
false_is true P is h = absurd (false≢true (sym is))
false_is false P is h = h

pub room_left : (members count : ℕ) (full : Bool) → members ≡ count → full ≡ false → (members_most ≤ members → full ≡ true) → count < members_most
room_left members count full same left more = ⊎_elim (λ less. less) (λ most. absurd (both_ways full left (more (omega (arith, most, same))))) (cases_lt count members_most)

-- how the requester stands
pub stands_so : (table : TableValue) (now : ℕ) (name : NameValue) (addr other : ℕ) (es : Entries) (slice : List Lease) (standing : Standing) → HoldsLive table now es → addr ≡ other → slice ≡ members_of es name → StandsIn addr (filter (is_live now) slice) standing
    → StandsIn other (leases_at now table.rows name) standing
stands_so table now name addr other es slice standing holds same is found =
    found_in addr other (filter (is_live now) slice) (leases_at now table.rows name) standing same (ap (filter (is_live now)) is ∙ ap (λ (f : Leases). f name) holds.leases) found

-- none of the requester's
pub none_so : (table : TableValue) (now : ℕ) (name : NameValue) (addr other : ℕ) (es : Entries) → HoldsLive table now es → addr ≡ other → HasNone addr (members_of es name) → HasNone other (leases_at now table.rows name)
none_so table now name addr other es holds same none =
    subst (HasNone other) (ap (λ (f : Leases). f name) holds.leases) (all_filter (λ l. l.addr ≢ other) (is_live now) (members_of es name) (subst (λ (n : ℕ). HasNone n (members_of es name)) same none))

-- ---- a grant

module _ (table : TableValue) (now : ℕ) (name : NameValue) (a : Asked) where
  -- refused, the leases being as before
  pub refuses : (fault : GrantFault) (after : Leases) → fault ≢ OutOfMemory → after ≡ leases_at now table.rows
      → GrantCase table.config now (live_count now table.rows) a (leases_at now table.rows name) (Err fault) (leases_at now table.rows name) → Places table now name a (Err fault) after
  refuses fault after other same case = record {
    rule = λ _. record { leases = leases_at now table.rows name; rule = case; after_is = same ∙ at_same name (leases_at now table.rows) };
    memory = λ is. let same_fault : fault ≡ OutOfMemory = cc in absurd (other same_fault);
    refused = same;
  }

  -- the requester's lease is renewed
  pub renews_lease : (until : ℕ) (after : Leases) → IsAllowed a (leases_at now table.rows name) → Renewed (leases_at now table.rows) name a.addr (end_of table.config now a) until after → Places table now name a (Ok (grant_until table.config a until true)) after
  renews_lease until after allowed r =
      record {
        rule = λ _. record {
          leases = r.before ++ record r.lease { end = until } ∷ r.behind;
          rule =
              subst (λ (u : ℕ). GrantCase table.config now (live_count now table.rows) a (leases_at now table.rows name) (Ok (grant_until table.config a u true)) (r.before ++ record r.lease { end = u } ∷ r.behind)) (sym r.until_is)
              (renews allowed r.before r.behind r.lease r.member.is r.member.owner_is);
          after_is = r.after_is;
        };
        memory = λ e. absurd cc;
        refused = tt;
      }

  same_middle : (before behind : List Lease) (x y : Lease) → before ++ x ∷ behind ≡ before ++ y ∷ behind → x ≡ y
  same_middle [] behind x y e = cc
  same_middle (z ∷ before) behind x y e = let rest : before ++ x ∷ behind ≡ before ++ y ∷ behind = cc in same_middle before behind x y rest

  -- out of memory for an expiry that would move
  pub runs_out_moving : (after : Leases) → IsAllowed a (leases_at now table.rows name) → Moves (leases_at now table.rows) name a.addr (end_of table.config now a) → after ≡ leases_at now table.rows → Places table now name a (Err OutOfMemory) after
  runs_out_moving after allowed m same =
      let new : Lease = renewed table.config now a m.lease in
      let leases : List Lease = m.before ++ new ∷ m.behind in
      record {
        rule = λ other. absurd (other refl);
        memory = λ _. record {
          result = grant_until table.config a (max m.lease.end (end_of table.config now a)) true;
          after = at_name name leases (leases_at now table.rows);
          rule = record { leases = leases; rule = renews allowed m.before m.behind m.lease m.member.is m.member.owner_is; after_is = refl };
          other = λ e.
              let one : new ≡ m.lease = same_middle m.before m.behind new m.lease (sym (here name leases (leases_at now table.rows)) ∙ (ap (λ (f : Leases). f name) e ∙ m.member.is)) in
              omega (arith, m.later, ap (λ (l : Lease). l.end) one);
        };
        refused = same;
      }

  -- a lease begins
  pub begins_lease : (after : Leases) → IsAllowed a (leases_at now table.rows name) → HasNone a.addr (leases_at now table.rows name) → length (leases_at now table.rows name) < members_most → live_count now table.rows < table.config.rows
      → after ≡ at_name name (leases_at now table.rows name ++ begun table.config now a ∷ []) (leases_at now table.rows) → Places table now name a (Ok (grant_until table.config a (end_of table.config now a) false)) after
  begins_lease after allowed none room vacant is = record {
    rule = λ _. record {
      leases = leases_at now table.rows name ++ begun table.config now a ∷ [];
      rule = begins allowed none room vacant;
      after_is = is;
    };
    memory = λ e. absurd cc;
    refused = tt;
  }

  longer : (leases : List Lease) (lease : Lease) → leases ++ lease ∷ [] ≡ leases → ⊥
  longer leases lease e = omega (arith, ap length e, length-append leases (lease ∷ []))

  -- out of memory for a lease that would begin
  pub runs_out : (after : Leases) → IsAllowed a (leases_at now table.rows name) → HasNone a.addr (leases_at now table.rows name) → length (leases_at now table.rows name) < members_most → live_count now table.rows < table.config.rows → after ≡ leases_at now table.rows → Places table now name a (Err OutOfMemory) after
  runs_out after allowed none room vacant same =
      let new : Lease = begun table.config now a in
      let leases : Leases = leases_at now table.rows in
      record {
        rule = λ other. absurd (other refl);
        memory = λ _. record {
          result = grant_until table.config a (end_of table.config now a) false;
          after = at_name name (leases name ++ new ∷ []) leases;
          rule = record { leases = leases name ++ new ∷ []; rule = begins allowed none room vacant; after_is = refl };
          other = λ e. longer (leases name) new (sym (here name (leases name ++ new ∷ []) leases) ∙ ap (λ (f : Leases). f name) e);
        };
        refused = same;
      }

pub sound_placed : (table : TableValue) (now : ℕ) (name : NameValue) (a : Asked) (result : Result Grant GrantFault) (after : Leases) → Places table now name a result after → IsSound table.config now (leases_at now table.rows) → IsSound table.config now after
sound_placed table now name a (Ok grant) after placed sound = sound_granted table now name a (Ok grant) after sound (placed.rule (λ e. cc))
sound_placed table now name a (Err fault) after placed sound = subst (IsSound table.config now) (sym placed.refused) sound

-- ---- a release

-- whether a lease lives, as the first of them tells
pub none_first : (r : Option Lease) (leases rest : List Lease) → MatchOption r ((leases ≡ []) × (rest ≡ [])) (λ lease. leases ≡ lease ∷ rest) → is_some r ≡ false → leases ≡ []
none_first None leases rest found none = found.0
none_first (Some lease) leases rest found none = absurd (false≢true (sym none))

pub some_first : (r : Option Lease) (leases rest : List Lease) → MatchOption r ((leases ≡ []) × (rest ≡ [])) (λ lease. leases ≡ lease ∷ rest) → is_some r ≡ true → leases ≢ []
some_first None leases rest found some = absurd (false≢true some)
some_first (Some lease) leases rest found some = λ empty. some_there [] rest lease (sym found ∙ empty)

pub takes_back : (table : TableValue) (now : ℕ) (name : NameValue) (addr : ℕ) (after : Leases) → Ended (leases_at now table.rows) name addr after → Releases table now name addr Gone after
takes_back table now name addr after e = record { leases = e.before ++ e.behind; rule = gone e.before e.behind e.lease e.member.is e.member.owner_is; after_is = e.after_is }

pub releases_none : (table : TableValue) (now : ℕ) (name : NameValue) (addr : ℕ) (result : Released) (after : Leases) → after ≡ leases_at now table.rows → ReleaseCase addr (leases_at now table.rows name) result (leases_at now table.rows name) → Releases table now name addr result after
releases_none table now name addr result after same case = record { leases = leases_at now table.rows name; rule = case; after_is = same ∙ at_same name (leases_at now table.rows) }

kept_case : (addr : ℕ) (leases after : List Lease) (result : Released) → ReleaseCase addr leases result after → result ≢ Gone → after ≡ leases
kept_case addr leases after result (gone _ _ _ _ _) other = absurd (other refl)
kept_case addr leases after result rule other = refl

-- where nothing was released, the leases are as before
pub nothing_released : (table : TableValue) (now : ℕ) (name : NameValue) (addr : ℕ) (result : Released) (after : Leases) → Releases table now name addr result after → result ≢ Gone → after ≡ leases_at now table.rows
nothing_released table now name addr result after r other =
    r.after_is ∙ (ap (λ (ls : List Lease). at_name name ls (leases_at now table.rows)) (kept_case addr (leases_at now table.rows name) r.leases result r.rule other) ∙ sym (at_same name (leases_at now table.rows)))
