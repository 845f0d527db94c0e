-- How many steps a reader makes: those of its path. Fewer than 112 labels fit into a name, and between two labels each pointer leads to a
-- smaller place.
use Rattle.std.proofs.Common.{◌≡◌, ℕ, suc, ◌+◌, ◌*◌, ◌≤◌, List, [], ◌∷◌, length, sym, ap, subst, arith}
use Rattle.nbt_name.proofs.Common.{slice_range, mul-le-mul_right, length-append, NameFault, Form, NameValue, Spot, Finds, IsLater, Step, letters_pass, label_passes, pointer_leads, Path, here, start, Stands, Stuck, Fails}
use Rattle.nbt_name.proofs.Walk.{Path-push, steps-push, end_in_steps, fault_in_steps}
use Rattle.nbt_name.proofs.WireForms.{length-range}
use Rattle.nbt_name.specs.Reading.{steps_on}

-- a reader on its path, that began with `base` and has counted each step
pub record OnPath (form : Form) (octets : List ℕ) (place base : ℕ) (at : Spot) (count : ℕ) : Type 0 where
  pub path : Path form octets (start place) at
  pub exact : count ≡ base + steps_on path

pub path_begins : (form : Form) (octets : List ℕ) (place base : ℕ) (at : Spot) → at ≡ start place → OnPath form octets place base at base
unfolding steps_on
path_begins form octets place base at e = subst (λ (s : Spot). OnPath form octets place base s base) (sym e) (record { path = here (start place); exact = omega arith })

pub path_goes_on : {form : Form} {octets : List ℕ} {place base : ℕ} (count : ℕ) {s : Spot} (t : Spot) → Step form octets s t → OnPath form octets place base s count → OnPath form octets place base t (count + 1)
path_goes_on count t step on_path = record { path = Path-push t on_path.path step; exact = omega (arith, on_path.exact, steps-push t on_path.path step) }

-- every way to the name has as many steps, and the closing zero is one more
pub name_in_steps : {form : Form} {octets : List ℕ} {place base count next : ℕ} {at : Spot} {name : NameValue} → OnPath form octets place base at count → IsLater at → Finds octets at 0
    → (stands : Stands form octets place name next) → count + 1 ≡ base + steps_on stands.path + 1
name_in_steps on_path later finds stands = omega (arith, on_path.exact, end_in_steps on_path.path later finds stands.path stands.closes.later stands.closes.zero)

pub refused_in_steps : {form : Form} {octets : List ℕ} {place base count : ℕ} {at : Spot} {fault : NameFault} → OnPath form octets place base at count → Stuck form octets at fault
    → (fails : Fails form octets place fault) → count ≡ base + steps_on fails.path
refused_in_steps {fault = fault} on_path stuck fails = omega (arith, on_path.exact, fault_in_steps fault fault on_path.path stuck fails.path fails.stuck)

-- how many labels were passed, by the octets that they take
pub data AreLabels (passed : List ℕ) : ℕ → Type 0 where
  no_label : passed ≡ [] → AreLabels passed 0
  some_labels : (labels : ℕ) → 2 * labels + 31 ≤ length passed → length passed ≤ 254 → AreLabels passed labels

-- the count, of a reader that began with `base`: each label adds at most the octets' length and one
pub record IsCounted (octets : List ℕ) (base : ℕ) (at : Spot) (count : ℕ) : Type 0 where
  pub labels : ℕ
  pub are_labels : AreLabels at.passed labels
  pub bound : count + at.place ≤ base + labels * suc (length octets)

by_labels : {form : Form} (octets : List ℕ) (base count labels : ℕ) {s t : Spot} → Step form octets s t → AreLabels s.passed labels → count + s.place ≤ base + labels * suc (length octets) → IsCounted octets base t (count + 1)
by_labels octets base count labels {s} (letters_pass first finds fits are) (no_label none) bound =
    let taken = length-append s.passed (32 ∷ slice_range octets (s.place + 1) (s.place + 1 + 32)) in
    let letters = length-range octets (s.place + 1) 32 (omega arith) in
    let empty : length s.passed ≡ 0 = ap length first in
    record { labels = 1; are_labels = some_labels 1 (omega (arith, taken, letters, empty)) (omega (arith, taken, letters, empty)); bound = omega arith }
by_labels octets base count labels {s} (letters_pass first finds fits are) (some_labels q enough most) bound =
    let empty : length s.passed ≡ 0 = ap length first in
    absurd (omega (arith, empty))
by_labels octets base count labels (label_passes n later finds low high room fits) (no_label none) bound = absurd (later none)
by_labels octets base count labels {s} (label_passes n later finds low high room fits) (some_labels q enough most) bound =
    let taken = length-append s.passed (n ∷ slice_range octets (s.place + 1) (s.place + 1 + n)) in
    let label = length-range octets (s.place + 1) n (omega arith) in
    record { labels = suc q; are_labels = some_labels (suc q) (omega (arith, taken, label)) (omega (arith, taken, label)); bound = omega arith }
by_labels octets base count labels (pointer_leads high low compressed finds le at back) are_labels bound = record { labels = labels; are_labels = are_labels; bound = omega arith }

pub step_counts : {form : Form} (octets : List ℕ) (base count : ℕ) {s t : Spot} → Step form octets s t → IsCounted octets base s count → IsCounted octets base t (count + 1)
step_counts octets base count step counted = by_labels octets base count counted.labels step counted.are_labels counted.bound

-- with the turn that it is in, a reader has made at most 112 steps for each octet, and 112 more
pub turns_bounded : (octets : List ℕ) (old place count : ℕ) (at : Spot) → place ≤ length octets → IsCounted octets (old + place) at count → count + 1 ≤ old + 112 * (length octets + 1)
turns_bounded octets old place count at within counted =
    let few : counted.labels ≤ 111 = few_labels at.passed counted.labels counted.are_labels in
    omega (arith, counted.bound, mul-le-mul_right (suc (length octets)) few)
  where
    few_labels : (passed : List ℕ) (labels : ℕ) → AreLabels passed labels → labels ≤ 111
    few_labels passed labels (no_label none) = omega arith
    few_labels passed labels (some_labels q enough most) = omega arith
