-- One reading stands for all.
use Rattle.std.proofs.Common.{◌≡◌, ◌+◌, ◌*◌, Bool, true, false, List, [], ◌∷◌, refl, ap, ◌∙◌, arith}
use Rattle.std.specs.Prelude.{◌≤◌, nat_lt, ◌||◌, if◌then◌else◌}
use Rattle.std.specs.List.{list_any}
use Rattle.std.proofs.lemmas.Bool.{lt-ltb, ltb-true, ltb-false}
use Rattle.std.proofs.Math.Bool.{or_assoc}
use Rattle.nbt_host.specs.declared.sleeping.Reading.{Reading}
use Rattle.nbt_host.specs.Sleeping.{sleep_most}
use Rattle.nbt_host.specs.Sleeping.{has_slept, anchor_of, anchor_since}

-- what another includes
left_in : (a b : Bool) → (a ≡ true → b ≡ true) → b ≡ (a || b)
left_in true b includes = includes refl
left_in false b includes = refl

right_in : (a b : Bool) → (b ≡ true → a ≡ true) → a ≡ (a || b)
right_in true b includes = refl
right_in false true includes = includes refl
right_in false false includes = refl

-- a reading by which the time of day was further back
further_back : (first reading later : Reading) → 1000 * reading.day + 1001 * first.before ≤ 1000 * first.day + 1001 * reading.before → has_slept first later ≡ true → has_slept reading later ≡ true
further_back first reading later back slept =
    let lt = ltb-true (1000 * first.day + 1001 * later.after + 1000 * sleep_most) (1000 * later.day + 1001 * first.before) slept in
    lt-ltb (1000 * reading.day + 1001 * later.after + 1000 * sleep_most) (1000 * later.day + 1001 * reading.before) (omega (arith, lt, back))

-- the one that is kept, by whether the other is further back
by_choice : (first reading later : Reading) (choice : Bool) → nat_lt (1000 * reading.day + 1001 * first.before) (1000 * first.day + 1001 * reading.before) ≡ choice
    → has_slept (if choice then reading else first) later ≡ (has_slept first later || has_slept reading later)
by_choice first reading later true is =
    let lt = ltb-true (1000 * reading.day + 1001 * first.before) (1000 * first.day + 1001 * reading.before) is in
    left_in (has_slept first later) (has_slept reading later) (further_back first reading later (omega (arith, lt)))
by_choice first reading later false is =
    let le = ltb-false (1000 * reading.day + 1001 * first.before) (1000 * first.day + 1001 * reading.before) is in
    right_in (has_slept first later) (has_slept reading later) (further_back reading first later (omega (arith, le)))

one_more : (first reading later : Reading) → has_slept (anchor_of first reading) later ≡ (has_slept first later || has_slept reading later)
one_more first reading later = by_choice first reading later (nat_lt (1000 * reading.day + 1001 * first.before) (1000 * first.day + 1001 * reading.before)) refl

or_nothing : (a : Bool) → a ≡ (a || false)
or_nothing true = refl
or_nothing false = refl

pub one_for_all : (first : Reading) (more : List Reading) (later : Reading) → has_slept (anchor_since first more) later ≡ list_any (λ (reading : Reading). has_slept reading later) (first ∷ more)
one_for_all first [] later = or_nothing (has_slept first later)
one_for_all first (reading ∷ more) later =
    let rest = list_any (λ (r : Reading). has_slept r later) more in
    one_for_all (anchor_of first reading) more later ∙ (ap (λ (b : Bool). b || rest) (one_more first reading later) ∙ or_assoc (has_slept first later) (has_slept reading later) rest)
