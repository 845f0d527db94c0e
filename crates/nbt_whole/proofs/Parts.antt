-- How many looks a list takes, by the parts of a draft.
use Rattle.std.proofs.Common.{◌≡◌, ◌≢◌, ◌<◌, ◌≤◌, ◌⊎◌, ℕ, zero, suc, ◌+◌, ◌*◌, ◌/◌, min, Bool, true, false, List, length, ◌==◌, if◌then◌else◌, refl, sym, ap, ◌∙◌, inl, inr, arith}
use Rattle.std.proofs.lemmas.Bool.{eq-eqb, eqb-true, eqb-false}
use Rattle.nbt_lease.specs.Lease.{Rows}
use Rattle.nbt_log.specs.Drafts.{DraftValue, leases, hosts, new_draft, one_part_noted, one_part_listed, one_part_more, one_part_further, IsWhole}
use Rattle.nbt_log.specs.declared.dates.Dates.{Dates}

-- ---- numbers

is_more : (r : ℕ) → 1 ≤ r → (q : ℕ) × (r ≡ suc q)
is_more zero some = absurd (omega (arith, some))
is_more (suc q) some = (q, refl)

-- not whole yet
not_yet : (done len now : ℕ) → now ≡ min (done + 256) len → now ≢ len → done + 256 < len
not_yet done len now is other = omega (arith, is, other)

-- ---- all names are noted, so one part more is listed

record OnePart (draft : DraftValue) (more : DraftValue) : Type 0 where
  pub rows : more.rows ≡ draft.rows
  pub noted : more.noted ≡ length more.rows
  pub done : more.done ≡ min (draft.done + 256) (length draft.rows)

abbrev listed_or : Bool → DraftValue → DraftValue
listed_or listed draft = if listed then one_part_listed draft else draft

listed_so : (b : Bool) (draft : DraftValue) → b ≡ true → listed_or b draft ≡ one_part_listed draft
listed_so b draft is = rw is refl

one_part : (draft : DraftValue) → draft.noted ≡ length draft.rows → OnePart draft (one_part_more draft)
one_part draft noted =
    let all : one_part_further draft.rows draft.noted ≡ length draft.rows = omega (arith, noted) in
    let is = listed_so ((one_part_noted draft).noted == length draft.rows) (one_part_noted draft) (eq-eqb _ _ all) in
    record {
      rows = ap (λ (d : DraftValue). d.rows) is;
      noted = ap (λ (d : DraftValue). d.noted) is ∙ all ∙ ap (λ (d : DraftValue). length d.rows) (sym is);
      done = ap (λ (d : DraftValue). d.done) is;
    }

-- it is whole after so many looks at most
abbrev pub IsListed : DraftValue → (looks : ℕ) → Type 0
IsListed draft looks = (draft.noted ≡ length draft.rows) × (length draft.rows ≤ draft.done + 256 * looks)

pub list_goes_on : (draft : DraftValue) (q : ℕ) → IsListed draft (suc q) → ¬ IsWhole (one_part_more draft) → (r : ℕ) × (q ≡ suc r) × IsListed (one_part_more draft) (suc r)
list_goes_on draft q left part =
    let facts = one_part draft left.0 in
    let len : length (one_part_more draft).rows ≡ length draft.rows = ap (λ (r : Rows). length r) facts.rows in
    let more = not_yet draft.done (length draft.rows) (one_part_more draft).done facts.done (λ is. part (is ∙ sym len)) in
    let rest = left.1 in
    let some = is_more q (omega (arith, more, rest)) in
    let done = facts.done in
    let count = some.1 in
    (some.0, count, (facts.noted, omega (arith, len, done, more, rest, count)))

pub leases_begin : (dates : Dates) (rows : Rows) (now most : ℕ) → length rows ≤ most → ¬ IsWhole (one_part_more (new_draft (leases dates) now rows)) → (r : ℕ) × (most / 256 ≡ suc r) × IsListed (one_part_more (new_draft (leases dates) now rows)) (suc r)
leases_begin dates rows now most few part =
    let draft = new_draft (leases dates) now rows in
    let facts = one_part draft refl in
    let len : length (one_part_more draft).rows ≡ length rows = ap (λ (r : Rows). length r) facts.rows in
    let more = not_yet 0 (length rows) (one_part_more draft).done facts.done (λ is. part (is ∙ sym len)) in
    let some = is_more (most / 256) (omega (arith, few, more)) in
    let done = facts.done in
    let count = some.1 in
    (some.0, count, (facts.noted, omega (arith, len, done, more, few, count)))

-- ---- names are noted, so nothing is listed yet

abbrev IsNoted : (most : ℕ) → DraftValue → (looks : ℕ) → Type 0
IsNoted most draft looks = (draft.done ≡ 0) × (length draft.rows ≤ 256 + 256 * (most / 256)) × (a : ℕ) × (length draft.rows ≤ draft.noted + 256 * suc a) × (looks ≡ suc a + most / 256)

-- it is whole after so many looks at most
abbrev pub IsNotedOrListed : (most : ℕ) → DraftValue → (looks : ℕ) → Type 0
IsNotedOrListed most draft looks = IsListed draft looks ⊎ IsNoted most draft looks

-- the last names are noted, and the first part is listed
then_listed : (most q a len noted done now : ℕ) → done ≡ 0 → len ≤ 256 + 256 * (most / 256) → suc q ≡ suc a + most / 256 → now ≡ min (done + 256) len → now ≢ len → (r : ℕ) × (q ≡ suc r) × (len ≤ now + 256 * suc r)
then_listed most q a len noted done now none small count is other =
    let more = not_yet done len now is other in
    let some = is_more q (omega (arith, more, small, none, count)) in
    let last = some.1 in
    (some.0, last, omega (arith, is, more, small, none, count, last))

-- one part more is noted
then_noted : (most q a len noted now : ℕ) → len ≤ noted + 256 * suc a → suc q ≡ suc a + most / 256 → now ≡ min (noted + 256) len → now ≢ len → (r : ℕ) × (q ≡ suc r) × (b : ℕ) × (len ≤ now + 256 * suc b) × (suc r ≡ suc b + most / 256)
then_noted most q a len noted now rest count is other =
    let more = not_yet noted len now is other in
    let some = is_more a (omega (arith, more, rest)) in
    let last = some.1 in
    (some.0 + most / 256, omega (arith, count, last), some.0, omega (arith, is, more, rest, last), omega arith)

note_goes_on : (most : ℕ) (draft : DraftValue) (q : ℕ) (all : Bool) → ((one_part_noted draft).noted == length draft.rows) ≡ all → IsNoted most draft (suc q) → ¬ IsWhole (listed_or all (one_part_noted draft))
    → (r : ℕ) × (q ≡ suc r) × IsNotedOrListed most (listed_or all (one_part_noted draft)) (suc r)
note_goes_on most draft q true is left part =
    let on = then_listed most q left.2 (length draft.rows) draft.noted draft.done (one_part_further draft.rows draft.done) left.0 left.1 left.4 refl part in
    (on.0, on.1, inl (eqb-true _ _ is, on.2))
note_goes_on most draft q false is left part =
    let on = then_noted most q left.2 (length draft.rows) draft.noted (one_part_further draft.rows draft.noted) left.3 left.4 refl (eqb-false _ _ is) in
    (on.0, on.1, inr (left.0, left.1, on.2, on.3, on.4))

pub hosts_go_on : (most : ℕ) (draft : DraftValue) (q : ℕ) → IsNotedOrListed most draft (suc q) → ¬ IsWhole (one_part_more draft) → (r : ℕ) × (q ≡ suc r) × IsNotedOrListed most (one_part_more draft) (suc r)
hosts_go_on most draft q (inl left) part = let on = list_goes_on draft q left part in (on.0, on.1, inl on.2)
hosts_go_on most draft q (inr left) part = note_goes_on most draft q ((one_part_noted draft).noted == length draft.rows) refl left part

twice : (p : ℕ) → 2 * p ≡ p + p
twice p = omega arith

pub hosts_begin : (fixed : List (List ℕ)) (rows : Rows) (now most : ℕ) → length rows ≤ most → ¬ IsWhole (one_part_more (new_draft (hosts fixed) now rows)) → (r : ℕ) × (2 * (most / 256) ≡ suc r) × IsNotedOrListed most (one_part_more (new_draft (hosts fixed) now rows)) (suc r)
hosts_begin fixed rows now most few part =
    let draft = new_draft (hosts fixed) now rows in
    let small : length rows ≤ 256 + 256 * (most / 256) = omega (arith, few) in
    let on = note_goes_on most draft (most / 256 + most / 256) ((one_part_noted draft).noted == length draft.rows) refl (refl, small, most / 256, omega (arith, small), omega arith) part in
    (on.0, twice (most / 256) ∙ on.1, on.2)
