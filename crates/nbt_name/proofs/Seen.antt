-- What a reader sees at a spot is determined: one step, one fault, or the end. So no two paths from a place end differently.
use Rattle.std.proofs.Common.{◌≡◌, ◌≢◌, ℕ, zero, suc, ◌+◌, ◌<◌, ◌≤◌, Bool, true, false, cond, eqb, ltb, leb, List, [], ◌∷◌, length, Option, Some, None, refl, ◌∙◌, arith, inl, inr, lt-ltb, le-ltb, le-leb, ne_eqb}
use Rattle.nbt_name.proofs.Common.{slice_get, slice_index, ◌⊎◌, lt-leb, cases_order, cases_lt, get_or_past, NameFault, NameFaultKind, Short, BadLabel, BadHalf, BadPointer, Long, Form, Plain, Compressed, Spot, Finds, IsFirst, IsLater, IsLetter, LettersAt, target, past, led, Step, letters_pass, label_passes, pointer_leads, LetterFault, other_octet, octets_end, Stuck, missing, first_label_bad, letters_bad, label_bad, label_long, label_cut, pointer_plain, pointer_cut, pointer_onward}

pub data Sight : Type 0 where
  moves : Spot → Sight
  faults : NameFault → Sight
  ends : Sight

-- a fault's record
abbrev pub fault : NameFaultKind → ℕ → NameFault
fault kind place = record { kind = kind; place = place }

is_letter : ℕ → Bool
is_letter octet = cond (leb 0x41 octet) (leb octet 0x50) false

is_letter-yes : (octet : ℕ) → IsLetter octet → is_letter octet ≡ true
unfolding is_letter
is_letter-yes octet h = rw (le-leb 0x41 octet h.0, le-leb octet 0x50 h.1) refl

pub letter_or_not : (octet : ℕ) → IsLetter octet ⊎ (¬ IsLetter octet)
letter_or_not octet = elim (cases_lt octet 0x41) [
  | inl low ↦ inr (λ h. omega arith)
  | inr le ↦ elim (cases_lt 0x50 octet) [ inl high ↦ inr (λ h. omega arith) | inr fits ↦ inl (le, fits) ]
]

is_letter-no : (octet : ℕ) → ¬ IsLetter octet → is_letter octet ≡ false
unfolding is_letter
is_letter-no octet h = elim (cases_order octet 0x41) [
  | inl e ↦ absurd (h (omega arith, omega arith))
  | inr (inl lt) ↦ rw (lt-leb 0x41 octet lt) refl
  | inr (inr gt) ↦ elim (cases_order octet 0x50) [
    | inl e ↦ absurd (h (omega arith, omega arith))
    | inr (inl lt) ↦ absurd (h (omega arith, omega arith))
    | inr (inr lt) ↦ let low : 0x41 ≤ octet = omega arith in rw (le-leb 0x41 octet low, lt-leb octet 0x50 lt) refl
  ]
]

-- the first k, from `from` on and among the next n, at which no letter stands
bad_from : List ℕ → ℕ → ℕ → ℕ → Option ℕ
bad_from octets place from zero = None
bad_from octets place from (suc n) = cond (is_letter (slice_index octets (place + from))) (bad_from octets place (suc from) n) (Some from)

bad_found : (octets : List ℕ) (place from n k : ℕ) → from ≤ k → k < from + n → LettersAt octets place k → ¬ IsLetter (slice_index octets (place + k)) → bad_from octets place from n ≡ Some k
unfolding bad_from
bad_found octets place from zero k le lt before bad = absurd (omega arith)
bad_found octets place from (suc n) k le lt before bad = elim (cases_order from k) [
  | inl e ↦ rw (e, is_letter-no (slice_index octets (place + k)) bad) refl
  | inr (inl less) ↦ rw (is_letter-yes (slice_index octets (place + from)) (before from less)) (bad_found octets place (suc from) n k less (omega arith) before bad)
  | inr (inr more) ↦ absurd (omega arith)
]

bad_none : (octets : List ℕ) (place from n : ℕ) → LettersAt octets place (from + n) → bad_from octets place from n ≡ None
unfolding bad_from
bad_none octets place from zero all = refl
bad_none octets place from (suc n) all = rw (is_letter-yes (slice_index octets (place + from)) (all from (omega arith))) (bad_none octets place (suc from) n (λ k lt. all k (omega arith)))

-- all of n are letters, or there is a first one that is none
pub letters_or_bad : (octets : List ℕ) (place n : ℕ) → LettersAt octets place n ⊎ ((k : ℕ) × (k < n) × LettersAt octets place k × (¬ IsLetter (slice_index octets (place + k))))
letters_or_bad octets place zero = inl (λ k lt. absurd (omega arith))
letters_or_bad octets place (suc n) = elim (letters_or_bad octets place n) [
  | inr (k, lt, before, bad) ↦ inr (k, omega arith, before, bad)
  | inl all ↦ elim (letter_or_not (slice_index octets (place + n))) [
    | inl letter ↦ inl (λ k lt. elim (cases_order k n) [ inl e ↦ rw e letter | inr (inl less) ↦ all k less | inr (inr more) ↦ absurd (omega arith) ])
    | inr bad ↦ inr (n, omega arith, all, bad)
  ]
]

-- ---- what is seen, computed

is_first : List ℕ → Bool
is_first [] = true
is_first (x ∷ xs) = false

is_first-yes : (xs : List ℕ) → xs ≡ [] → is_first xs ≡ true
unfolding is_first
is_first-yes [] e = refl
is_first-yes (x ∷ xs) e = absurd cc

is_first-no : (xs : List ℕ) → xs ≢ [] → is_first xs ≡ false
unfolding is_first
is_first-no [] e = absurd (e refl)
is_first-no (x ∷ xs) e = refl

see_low : List ℕ → Spot → ℕ → Option ℕ → Sight
see_low octets s high None = faults (fault Short (length octets))
see_low octets s high (Some low) = cond (ltb (target high low) s.place) (moves (led s (target high low))) (faults (fault BadPointer s.place))

see_pointer : Form → List ℕ → Spot → ℕ → Sight
see_pointer Plain octets s high = faults (fault BadPointer s.place)
see_pointer Compressed octets s high = see_low octets s high (slice_get octets (s.place + 1))

see_letters : List ℕ → Spot → Option ℕ → Sight
see_letters octets s None = moves (past octets s 32)
see_letters octets s (Some k) = cond (ltb (s.place + 1 + k) (length octets)) (faults (fault BadHalf (s.place + 1 + k))) (faults (fault Short (length octets)))

see_first : List ℕ → Spot → ℕ → Sight
see_first octets s n = cond (eqb n 0x20) (see_letters octets s (bad_from octets (s.place + 1) 0 32)) (faults (fault BadLabel s.place))

see_label : List ℕ → Spot → ℕ → Sight
see_label octets s n = cond (leb (length s.passed + 1 + n + 1) 255) (cond (leb (s.place + 1 + n) (length octets)) (moves (past octets s n)) (faults (fault Short (length octets)))) (faults (fault Long s.place))

see_later : List ℕ → Spot → ℕ → Sight
see_later octets s n = cond (eqb n 0) ends (cond (leb n 63) (see_label octets s n) (faults (fault BadLabel s.place)))

see_octet : Form → List ℕ → Spot → Option ℕ → Sight
see_octet form octets s None = faults (fault Short (length octets))
see_octet form octets s (Some n) = cond (leb 0xC0 n) (see_pointer form octets s n) (cond (is_first s.passed) (see_first octets s n) (see_later octets s n))

pub sight : Form → List ℕ → Spot → Sight
sight form octets s = see_octet form octets s (slice_get octets s.place)

-- ---- each step, fault and end is what is seen

letters_seen : (form : Form) (octets : List ℕ) (s : Spot) → IsFirst s → Finds octets s 0x20 → sight form octets s ≡ see_letters octets s (bad_from octets (s.place + 1) 0 32)
unfolding sight see_octet see_first
letters_seen form octets s first finds = rw (finds, is_first-yes s.passed first) refl

later_seen : (form : Form) (octets : List ℕ) (s : Spot) (n : ℕ) → IsLater s → Finds octets s n → n < 0xC0 → sight form octets s ≡ see_later octets s n
unfolding sight see_octet
later_seen form octets s n later finds small = rw (finds, lt-leb 0xC0 n small, is_first-no s.passed later) refl

label_seen : (form : Form) (octets : List ℕ) (s : Spot) (n : ℕ) → IsLater s → Finds octets s n → 1 ≤ n → n ≤ 63 → sight form octets s ≡ see_label octets s n
unfolding see_later
label_seen form octets s n later finds low high =
    let other : n ≢ 0 = omega arith in
    later_seen form octets s n later finds (omega arith) ∙ rw (ne_eqb n 0 other, le-leb n 63 high) refl

pointer_seen : (form : Form) (octets : List ℕ) (s : Spot) (high : ℕ) → Finds octets s high → 0xC0 ≤ high → sight form octets s ≡ see_pointer form octets s high
unfolding sight see_octet
pointer_seen form octets s high finds le = rw (finds, le-leb 0xC0 high le) refl

low_seen : (form : Form) (octets : List ℕ) (s : Spot) (high : ℕ) → form ≡ Compressed → Finds octets s high → 0xC0 ≤ high → sight form octets s ≡ see_low octets s high (slice_get octets (s.place + 1))
unfolding see_pointer
low_seen form octets s high compressed finds le = pointer_seen form octets s high finds le ∙ rw compressed refl

pub step_seen : (form : Form) (octets : List ℕ) (s t : Spot) → Step form octets s t → sight form octets s ≡ moves t
unfolding see_letters see_label see_low
step_seen form octets s _ (letters_pass first finds fits all) =
    letters_seen form octets s first finds ∙ rw (bad_none octets (s.place + 1) 0 32 all) refl
step_seen form octets s _ (label_passes n later finds low high room fits) =
    label_seen form octets s n later finds low high ∙ rw (le-leb _ _ room, le-leb _ _ fits) refl
step_seen form octets s _ (pointer_leads high low compressed finds le at back) =
    low_seen form octets s high compressed finds le ∙ rw (at, lt-ltb _ _ back) refl

letter_fault_seen : (octets : List ℕ) (s : Spot) (f : NameFault) → LetterFault octets (s.place + 1) f → see_letters octets s (bad_from octets (s.place + 1) 0 32) ≡ faults f
unfolding see_letters
letter_fault_seen octets s _ (other_octet k lt before within bad) =
    rw (bad_found octets (s.place + 1) 0 32 k (omega arith) lt before bad, lt-ltb _ _ within) refl
letter_fault_seen octets s _ (octets_end k lt before ended) =
    let bad : ¬ IsLetter (slice_index octets (s.place + 1 + k)) = λ h. omega (arith, get_or_past octets (s.place + 1 + k) 0 (omega arith)) in
    rw (bad_found octets (s.place + 1) 0 32 k (omega arith) lt before bad, le-ltb (s.place + 1 + k) (length octets) (omega arith)) refl

pub fault_seen : (form : Form) (octets : List ℕ) (s : Spot) (f : NameFault) → Stuck form octets s f → sight form octets s ≡ faults f
unfolding sight see_octet see_first see_later see_label see_letters see_low see_pointer
fault_seen form octets s _ (missing none) = rw none refl
fault_seen form octets s _ (first_label_bad n first finds other small) = rw (finds, lt-leb 0xC0 n small, is_first-yes s.passed first, ne_eqb n 0x20 other) refl
fault_seen form octets s f (letters_bad g first finds fault) = letters_seen form octets s first finds ∙ letter_fault_seen octets s f fault
fault_seen form octets s _ (label_bad n later finds low high) =
    let other : n ≢ 0 = omega arith in
    later_seen form octets s n later finds high ∙ rw (ne_eqb n 0 other, lt-leb n 63 (omega arith)) refl
fault_seen form octets s _ (label_long n later finds low high long) =
    label_seen form octets s n later finds low high ∙ rw (lt-leb (length s.passed + 1 + n + 1) 255 long) refl
fault_seen form octets s _ (label_cut n later finds low high room cut) =
    label_seen form octets s n later finds low high ∙ rw (le-leb _ _ room, lt-leb _ _ cut) refl
fault_seen form octets s _ (pointer_plain high plain finds le) = pointer_seen form octets s high finds le ∙ rw plain refl
fault_seen form octets s _ (pointer_cut high compressed finds le none) = low_seen form octets s high compressed finds le ∙ rw none refl
fault_seen form octets s _ (pointer_onward high low compressed finds le at onward) =
    low_seen form octets s high compressed finds le ∙ rw (at, le-ltb _ _ onward) refl

pub end_seen : (form : Form) (octets : List ℕ) (s : Spot) → IsLater s → Finds octets s 0 → sight form octets s ≡ ends
unfolding see_later
end_seen form octets s later finds = later_seen form octets s 0 later finds (omega arith) ∙ refl
