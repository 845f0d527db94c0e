-- A plain name's octets are its wire form, and a name's fault stands within the octets.
use Rattle.std.proofs.Common.{◌≡◌, ℕ, suc, ◌+◌, ◌-◌, ◌≤◌, List, [], ◌∷◌, ◌++◌, length, take, drop, Option, Some, None, refl, sym, ap, ◌∙◌, arith, append_assoc, add-one}
use Rattle.std.specs.Prelude.{slice_get, slice_range, unwrap_or}
use Rattle.std.proofs.lemmas.List.{take-append-drop, drop-drop, drop_all, append-nil}
use Rattle.std.proofs.Math.Seq.{drop-cons}
use Rattle.std.proofs.lemmas.Option.{get_or_from_slice_get, slice_get_within}
use Rattle.nbt_name.specs.declared.fault.NameFault.{NameFault}
use Rattle.nbt_name.specs.declared.form.Form.{Form}
use Rattle.nbt_name.specs.declared.form.Form.TheVariants.{Plain}
use Rattle.nbt_name.specs.Wire.{NameValue, IsName, wire}
use Rattle.nbt_name.specs.Reading.{Spot, start, Step, letters_pass, label_passes, pointer_leads, Path, here, onward, PlainNameAt, PlainFaultAt, LetterFault, other_octet, octets_end, Stuck, missing, first_label_bad, letters_bad, label_bad, label_long, label_cut, pointer_plain, pointer_cut, pointer_onward}

drop_found : (xs : List ℕ) (p x : ℕ) → slice_get xs p ≡ Some x → drop p xs ≡ x ∷ drop (p + 1) xs
drop_found xs p x found = rw add-one (drop-cons xs p x (slice_get_within xs p x found) ∙ ap (λ (y : ℕ). y ∷ drop (suc p) xs) (get_or_from_slice_get xs p x x found))

-- ---- faults

letters_within : (octets : List ℕ) (place : ℕ) (f : NameFault) → LetterFault octets place f → f.place ≤ length octets
letters_within octets place _ (other_octet k lt before within bad) = omega arith
letters_within octets place _ (octets_end k lt before ends) = omega arith

stuck_within : (form : Form) (octets : List ℕ) (s : Spot) (f : NameFault) → Stuck form octets s f → f.place ≤ length octets
stuck_within form octets s _ (missing none) = omega arith
stuck_within form octets s _ (first_label_bad n first finds other small) = omega (arith, slice_get_within octets s.place n finds)
stuck_within form octets s f (letters_bad f2 first finds bad) = letters_within octets (s.place + 1) f2 bad
stuck_within form octets s _ (label_bad n later finds low high) = omega (arith, slice_get_within octets s.place n finds)
stuck_within form octets s _ (label_long n later finds low high long) = omega (arith, slice_get_within octets s.place n finds)
stuck_within form octets s _ (label_cut n later finds low high room cut) = omega arith
stuck_within form octets s _ (pointer_plain high plain finds le) = omega (arith, slice_get_within octets s.place high finds)
stuck_within form octets s _ (pointer_cut high compressed finds le none) = omega arith
stuck_within form octets s _ (pointer_onward high low compressed finds le at ahead) = omega (arith, slice_get_within octets s.place high finds)

pub fault_within : (octets : List ℕ) (place : ℕ) (f : NameFault) → PlainFaultAt octets place f → f.place ≤ length octets
fault_within octets place f at = stuck_within Plain octets at.spot f at.stuck

-- ---- names

-- what was passed since a place stands there, and nothing was skipped
record Covers (octets : List ℕ) (place : ℕ) (s : Spot) : Type 0 where
  passed : drop place octets ≡ s.passed ++ drop s.place octets
  straight : s.resume ≡ None

-- after a label of n octets
label_passed : (octets : List ℕ) (p n : ℕ) → slice_get octets p ≡ Some n → drop p octets ≡ n ∷ slice_range octets (p + 1) (p + 1 + n) ++ drop (p + 1 + n) octets
label_passed octets p n found =
    let width : (p + 1 + n) - (p + 1) ≡ n = omega arith in
    drop_found octets p n found
    ∙ ap (λ (xs : List ℕ). n ∷ xs) (sym (take-append-drop n (drop (p + 1) octets)) ∙ ap (λ (k : ℕ). take k (drop (p + 1) octets) ++ drop n (drop (p + 1) octets)) (sym width) ∙ ap (λ (xs : List ℕ). slice_range octets (p + 1) (p + 1 + n) ++ xs) (drop-drop n (p + 1) octets))

passes : (octets : List ℕ) (place n : ℕ) (s : Spot) → slice_get octets s.place ≡ Some n → drop place octets ≡ s.passed ++ drop s.place octets
    → drop place octets ≡ (s.passed ++ n ∷ slice_range octets (s.place + 1) (s.place + 1 + n)) ++ drop (s.place + 1 + n) octets
passes octets place n s found so_far =
    so_far ∙ ap (λ (xs : List ℕ). s.passed ++ xs) (label_passed octets s.place n found)
    ∙ sym (append_assoc s.passed (n ∷ slice_range octets (s.place + 1) (s.place + 1 + n)) (drop (s.place + 1 + n) octets))

step_covers : (octets : List ℕ) (place : ℕ) (s t : Spot) → Step Plain octets s t → Covers octets place s → Covers octets place t
step_covers octets place s _ (letters_pass first finds within are) c = record { passed = passes octets place 32 s finds c.passed; straight = c.straight }
step_covers octets place s _ (label_passes n later finds low high room within) c = record { passed = passes octets place n s finds c.passed; straight = c.straight }
step_covers octets place s _ (pointer_leads high low compressed finds le at back) c = absurd cc

path_covers : (octets : List ℕ) (place : ℕ) (s t : Spot) → Path Plain octets s t → Covers octets place s → Covers octets place t
path_covers octets place _ _ (here s) c = c
path_covers octets place _ _ (onward s t u step others) c = path_covers octets place t u others (step_covers octets place s t step c)

-- the octets from a plain name's place on are its wire form, and then those from the place after it
pub spelled : (octets : List ℕ) (place : ℕ) (name : NameValue) (next : ℕ) → PlainNameAt octets place name next → drop place octets ≡ wire name ++ drop next octets
spelled octets place name next at =
    let c = path_covers octets place (start place) at.spot at.path (record { passed = refl; straight = refl }) in
    let after : next ≡ at.spot.place + 1 = at.closes.next_is ∙ ap (λ (r : Option ℕ). unwrap_or r (at.spot.place + 1)) c.straight in
    c.passed ∙ ap (λ (xs : List ℕ). at.spot.passed ++ xs) (drop_found octets at.spot.place 0 at.closes.zero) ∙ sym (append_assoc at.spot.passed (0 ∷ []) (drop (at.spot.place + 1) octets))
    ∙ ap (λ (xs : List ℕ). xs ++ drop (at.spot.place + 1) octets) at.closes.spells ∙ ap (λ (k : ℕ). wire name ++ drop k octets) (sym after)

pub name_is : (octets : List ℕ) (place : ℕ) (name : NameValue) (next : ℕ) → PlainNameAt octets place name next → IsName name
name_is octets place name next at = at.closes.is_name

-- two names that fill the octets are their wire forms
pub names_fill : (octets : List ℕ) (called calling : NameValue) (next end : ℕ) → PlainNameAt octets 0 called next → PlainNameAt octets next calling end → length octets ≤ end → wire called ++ wire calling ≡ octets
names_fill octets called calling next end first second filled =
    let nothing : drop end octets ≡ [] = drop_all end octets filled in
    sym (
    spelled octets 0 called next first
    ∙ ap (λ (xs : List ℕ). wire called ++ xs) (spelled octets next calling end second ∙ ap (λ (xs : List ℕ). wire calling ++ xs) nothing)
    ∙ sym (append_assoc (wire called) (wire calling) [])
    ∙ append-nil (wire called ++ wire calling)
    )
