-- Labels where they stand: one row of them at each place, which is the one that a reader passes.
use Rattle.std.proofs.Common.{◌≡◌, ℕ, zero, suc, ◌+◌, ◌-◌, ◌*◌, ◌<◌, ◌≤◌, List, [], ◌∷◌, ◌++◌, length, take, drop, Some, refl, sym, ap, subst, ◌∙◌, arith, append_assoc, lt-ltb, le-ltb, ne_eqb}
use Rattle.nbt_name.proofs.Common.{slice_get, slice_index, slice_range, append-nil, drop_at, take_at, get_or_at, get_or_past, get_or-take, get_or-drop, length-append, slice_get-get_or, slice_get_within, mul-le-mul_right, letters, NameValue, IsScope, empty, label, Form, Spot, Finds, target, Step, letters_pass, label_passes, pointer_leads, Path, here, onward, Stands}
use Rattle.nbt_name.proofs.Passing.{range_at}
use Rattle.nbt_name.proofs.WireForms.{split_front, length-range}
use Rattle.nbt_name.specs.Labels.{behind, led_to, LabelsAt, ended, labelled, pointed, labels_in, labels_at, HasLabels}

-- what is found at a place is the octet there
found_index : (xs : List ℕ) (p n : ℕ) → slice_get xs p ≡ Some n → slice_index xs p ≡ n
found_index xs p n found = let same : Some (slice_index xs p) ≡ Some n = sym (slice_get-get_or xs p 0 (slice_get_within xs p n found)) ∙ found in cc

-- ---- what stands at a place: a pointer, a label, or none

pub led_on : {octets : List ℕ} {place : ℕ} {labels : List ℕ} → LabelsAt octets place labels → 0xC0 ≤ slice_index octets place
    → (place + 2 ≤ length octets) × (led_to octets place < place) × LabelsAt octets (led_to octets place) labels
led_on (ended place zero_is) high = absurd (omega arith)
led_on (labelled place labels low most within rest) high = absurd (omega arith)
led_on (pointed place labels pointer within back rest) high = (within, back, rest)

pub first_label : {octets : List ℕ} {place : ℕ} {labels : List ℕ} → LabelsAt octets place labels → 1 ≤ slice_index octets place → slice_index octets place < 0xC0
    → (behind octets place ≤ length octets) × (rest : List ℕ) × (labels ≡ slice_range octets place (behind octets place) ++ rest) × LabelsAt octets (behind octets place) rest
first_label (ended place zero_is) some small = absurd (omega arith)
first_label (labelled place labels low most within rest) some small = (within, labels, refl, rest)
first_label (pointed place labels pointer within back rest) some small = absurd (omega arith)

pub no_labels : {octets : List ℕ} {place : ℕ} {labels : List ℕ} → LabelsAt octets place labels → slice_index octets place ≡ 0 → labels ≡ []
no_labels (ended place zero_is) none = refl
no_labels (labelled place labels low most within rest) none = absurd (omega arith)
no_labels (pointed place labels pointer within back rest) none = absurd (omega arith)

-- ---- they are one row

pub one_row : (octets : List ℕ) (place : ℕ) (a b : List ℕ) → LabelsAt octets place a → LabelsAt octets place b → a ≡ b
one_row octets _ _ b (ended place zero_is) other = sym (no_labels other zero_is)
one_row octets _ _ b (labelled place labels low most within rest) other =
    let others = first_label other low (omega (arith, most)) in
    ap (λ (xs : List ℕ). slice_range octets place (behind octets place) ++ xs) (one_row octets (behind octets place) labels others.1 rest others.3) ∙ sym others.2
one_row octets _ _ b (pointed place labels pointer within back rest) other = one_row octets (led_to octets place) labels b rest (led_on other pointer).2

-- what each label leaves of them, and of the steps
label_leaves : (octets : List ℕ) (place : ℕ) (labels : List ℕ) (steps : ℕ) → 1 ≤ slice_index octets place → behind octets place ≤ length octets
    → length (slice_range octets place (behind octets place) ++ labels) * (length octets + 1) + place < suc steps → length labels * (length octets + 1) + behind octets place < steps
label_leaves octets place labels steps some within less =
    let here_long : length (slice_range octets place (behind octets place)) ≡ 1 + slice_index octets place =
    ap (λ (n : ℕ). length (slice_range octets place n)) (omega arith) ∙ length-range octets place (1 + slice_index octets place) (omega (arith, within)) in
    let all_long : 1 + length labels ≤ length (slice_range octets place (behind octets place) ++ labels) = omega (arith, here_long, length-append (slice_range octets place (behind octets place)) labels) in
    let more : (1 + length labels) * (length octets + 1) ≤ length (slice_range octets place (behind octets place) ++ labels) * (length octets + 1) = mul-le-mul_right (length octets + 1) all_long in
    omega (arith, more, less, within)

row_in : (octets : List ℕ) (steps place : ℕ) (labels : List ℕ) → LabelsAt octets place labels → place ≤ length octets → length labels * (length octets + 1) + place < steps
    → labels_in steps octets place ≡ labels
unfolding labels_in
row_in octets zero place labels stands within less = absurd (omega (arith, less))
row_in octets (suc steps) _ _ (ended place zero_is) within less = rw zero_is refl
row_in octets (suc steps) _ _ (labelled place labels low most inside rest) within less =
    rw (ne_eqb (slice_index octets place) 0 (omega (arith, low)), lt-ltb (slice_index octets place) 0xC0 (omega (arith, most)))
    (ap (λ (xs : List ℕ). slice_range octets place (behind octets place) ++ xs) (row_in octets steps (behind octets place) labels rest inside (label_leaves octets place labels steps low inside less)))
row_in octets (suc steps) _ _ (pointed place labels pointer inside back rest) within less =
    rw (ne_eqb (slice_index octets place) 0 (omega (arith, pointer)), le-ltb (slice_index octets place) 0xC0 pointer)
    (row_in octets steps (led_to octets place) labels rest (omega (arith, back, within)) (omega (arith, back, less)))

-- so they are what is computed
pub row_is : (octets : List ℕ) (place : ℕ) (labels : List ℕ) → HasLabels octets place labels → labels_at octets place ≡ labels
row_is octets place labels has =
    let most : length labels * (length octets + 1) ≤ 255 * (length octets + 1) = mul-le-mul_right (length octets + 1) has.few in
    row_in octets (256 * (length octets + 1)) place labels has.stand has.within (omega (arith, most, has.within))

pub has_row : (octets : List ℕ) (place : ℕ) (labels : List ℕ) → HasLabels octets place labels → HasLabels octets place (labels_at octets place)
has_row octets place labels has = subst (HasLabels octets place) (sym (row_is octets place labels has)) has

-- the first label is taken from them
pub record Taken (octets : List ℕ) (place end : ℕ) (labels : List ℕ) : Type 0 where
  pub others : HasLabels octets end (labels_at octets end)
  pub are : labels ≡ slice_range octets place end ++ labels_at octets end
  pub whole : length (slice_range octets place end) ≡ slice_index (slice_range octets place end) 0 + 1

pub take_label : (octets : List ℕ) (place n : ℕ) (labels : List ℕ) → LabelsAt octets place labels → length labels ≤ 255 → 1 ≤ slice_index octets place → slice_index octets place < 0xC0
    → n ≡ slice_index octets place → Taken octets place (place + 1 + n) labels
take_label octets place n labels stands few some small is =
    let first = first_label stands some small in
    let has : HasLabels octets (behind octets place) first.1 = record {
      within = first.0;
      few = omega (arith, few, ap length first.2, length-append (slice_range octets place (behind octets place)) first.1);
      stand = first.3;
    } in
    let end : behind octets place ≡ place + 1 + n = omega (arith, is) in
    let count : 0 < behind octets place - place = omega arith in
    let head : slice_index (slice_range octets place (behind octets place)) 0 ≡ slice_index octets place =
    get_or-take (behind octets place - place) (drop place octets) 0 0 count ∙ get_or-drop place octets 0 0 ∙ ap (slice_index octets) (omega arith) in
    let long : length (slice_range octets place (behind octets place)) ≡ 1 + slice_index octets place =
    ap (λ (m : ℕ). length (slice_range octets place m)) (omega arith) ∙ length-range octets place (1 + slice_index octets place) (omega (arith, first.0)) in
    subst (λ (m : ℕ). Taken octets place m labels) end (record {
      others = has_row octets (behind octets place) first.1 has;
      are = first.2 ∙ ap (λ (xs : List ℕ). slice_range octets place (behind octets place) ++ xs) (sym (row_is octets (behind octets place) first.1 has));
      whole = omega (arith, head, long);
    })

-- ---- those of a scope, and those of a name where it stands

-- a scope's octets behind others
scope_behind_front : (front scope : List ℕ) → IsScope scope → LabelsAt (front ++ scope) (length front) scope
scope_behind_front front _ empty = ended (length front) (get_or_past (front ++ []) (length front) 0 (omega (arith, length-append front [])))
scope_behind_front front _ (label octets scope low high rest) =
    let whole : List ℕ = front ++ (length octets ∷ octets ++ scope) in
    let count : slice_index whole (length front) ≡ length octets = get_or_at front (length octets) (octets ++ scope) 0 (length front) refl in
    let long : length whole ≡ length front + 1 + length octets + length scope = omega (arith, length-append front (length octets ∷ octets ++ scope), length-append octets scope) in
    let other : (front ++ length octets ∷ octets) ++ scope ≡ whole = append_assoc front (length octets ∷ octets) scope in
    let place : length (front ++ length octets ∷ octets) ≡ behind whole (length front) = omega (arith, length-append front (length octets ∷ octets), count) in
    let later : LabelsAt whole (behind whole (length front)) scope =
    subst (λ (n : ℕ). LabelsAt whole n scope) place (subst (λ (xs : List ℕ). LabelsAt xs (length (front ++ length octets ∷ octets)) scope) other (scope_behind_front (front ++ length octets ∷ octets) scope rest)) in
    let first : slice_range whole (length front) (behind whole (length front)) ≡ length octets ∷ octets =
    ap (take (behind whole (length front) - length front)) (drop_at front (length octets ∷ octets ++ scope) (length front) refl)
    ∙ take_at (length octets ∷ octets) scope (behind whole (length front) - length front) (omega (arith, count)) in
    subst (LabelsAt whole (length front)) (ap (λ (xs : List ℕ). xs ++ scope) first)
    (labelled (length front) scope (omega (arith, count, low)) (omega (arith, count, high)) (omega (arith, count, long)) later)

pub scope_stands : (scope : List ℕ) → IsScope scope → length scope ≤ 221 → HasLabels scope 0 scope
scope_stands scope is fits = record { within = omega arith; few = omega (arith, fits); stand = scope_behind_front [] scope is }

-- what a path passes on its way to the closing zero
record Passed (octets : List ℕ) (place : ℕ) (before after : List ℕ) : Type 0 where
  labels : List ℕ
  are : before ++ labels ≡ after
  stand : LabelsAt octets place labels

label_passed : (octets before after : List ℕ) (place n : ℕ) → slice_get octets place ≡ Some n → 1 ≤ n → n ≤ 63 → place + 1 + n ≤ length octets
    → Passed octets (place + 1 + n) (before ++ n ∷ slice_range octets (place + 1) (place + 1 + n)) after → Passed octets place before after
label_passed octets before after place n found low most within rest =
    let is : slice_index octets place ≡ n = found_index octets place n found in
    let there : slice_range octets place (behind octets place) ≡ n ∷ slice_range octets (place + 1) (place + 1 + n) =
    ap (λ (m : ℕ). slice_range octets place (place + 1 + m)) is ∙ range_at octets place n n found in
    record {
      labels = slice_range octets place (behind octets place) ++ rest.labels;
      are = ap (λ (xs : List ℕ). before ++ (xs ++ rest.labels)) there ∙ sym (append_assoc before (n ∷ slice_range octets (place + 1) (place + 1 + n)) rest.labels) ∙ rest.are;
      stand = labelled place rest.labels (omega (arith, is, low)) (omega (arith, is, most)) (omega (arith, is, within))
          (subst (λ (m : ℕ). LabelsAt octets (place + 1 + m) rest.labels) (sym is) rest.stand);
    }

labels_passed : {form : Form} (octets : List ℕ) {s t : Spot} → Path form octets s t → Finds octets t 0 → Passed octets s.place s.passed t.passed
labels_passed octets (here s) finds = record { labels = []; are = append-nil s.passed; stand = ended s.place (found_index octets s.place 0 finds) }
labels_passed octets (onward s t u step others) finds = step_passed step (labels_passed octets others finds)
  where
    step_passed : {form : Form} {s t : Spot} {after : List ℕ} → Step form octets s t → Passed octets t.place t.passed after → Passed octets s.place s.passed after
    step_passed {s = s} {after = after} (letters_pass first found within are) rest = label_passed octets s.passed after s.place 0x20 found (omega arith) (omega arith) (omega (arith, within)) rest
    step_passed {s = s} {after = after} (label_passes n later found low high room within) rest = label_passed octets s.passed after s.place n found low high within rest
    step_passed {s = s} (pointer_leads high low compressed found le at back) rest =
        let one : slice_index octets s.place ≡ high = found_index octets s.place high found in
        let two : slice_index octets (s.place + 1) ≡ low = found_index octets (s.place + 1) low at in
        let to : led_to octets s.place ≡ target high low = rw (one, two) refl in
        record {
          labels = rest.labels;
          are = rest.are;
          stand = pointed s.place rest.labels (omega (arith, one, le)) (omega (arith, slice_get_within octets (s.place + 1) low at)) (omega (arith, to, back))
              (subst (λ (n : ℕ). LabelsAt octets n rest.labels) (sym to) rest.stand);
        }

-- the labels of the name that stands at a place
pub name_stands : {form : Form} (octets : List ℕ) (place : ℕ) (name : NameValue) (next : ℕ) → Stands form octets place name next → LabelsAt octets place (0x20 ∷ letters name.octets ++ name.scope)
name_stands octets place name next stands =
    let passed = labels_passed octets stands.path stands.closes.zero in
    let closed : passed.labels ++ 0 ∷ [] ≡ (0x20 ∷ letters name.octets ++ name.scope) ++ 0 ∷ [] =
    ap (λ (xs : List ℕ). xs ++ 0 ∷ []) passed.are ∙ stands.closes.spells in
    let long : length passed.labels ≡ length (0x20 ∷ letters name.octets ++ name.scope) =
    omega (arith, ap length closed, length-append passed.labels (0 ∷ []), length-append (0x20 ∷ letters name.octets ++ name.scope) (0 ∷ [])) in
    subst (LabelsAt octets place) (split_front passed.labels (0x20 ∷ letters name.octets ++ name.scope) (0 ∷ []) (0 ∷ []) long closed).0 passed.stand

-- two rows are one where their first labels are, and what follows them
pub same_front : (x y a b : List ℕ) → length x ≡ slice_index x 0 + 1 → length y ≡ slice_index y 0 + 1 → x ++ a ≡ y ++ b → (x ≡ y) × (a ≡ b)
same_front [] y a b whole_x whole_y e = absurd (omega (arith, whole_x))
same_front (x ∷ xs) [] a b whole_x whole_y e = absurd (omega (arith, whole_y))
same_front (x ∷ xs) (y ∷ ys) a b whole_x whole_y e =
    let first : x ≡ y = cc in
    split_front (x ∷ xs) (y ∷ ys) a b (omega (arith, whole_x, whole_y, first)) e
