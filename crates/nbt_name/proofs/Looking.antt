-- At each place stands a name or a fault: a reader that looks finds a step, the end or a fault, and its steps come to an end.
use Rattle.std.proofs.Common.{◌≡◌, ◌≢◌, ℕ, zero, suc, ◌+◌, ◌<◌, ◌≤◌, List, [], ◌∷◌, ◌++◌, length, Option, Some, None, refl, ap, arith, inl, inr}
use Rattle.nbt_name.proofs.Common.{slice_get, slice_index, unwrap_or, ◌⊎◌, cases_lt, cases_eq, get_or_past, slice_get_past, NameFault, Form, Plain, Compressed, NameValue, AreOctets, Spot, Finds, IsFirst, IsLater, IsLetter, LettersAt, target, start, Step, letters_pass, label_passes, pointer_leads, Path, here, onward, Stands, other_octet, octets_end, Stuck, missing, first_label_bad, letters_bad, label_bad, label_long, label_cut, pointer_plain, pointer_cut, pointer_onward, Fails, slice_get_within}
use Rattle.nbt_name.proofs.Seen.{letters_or_bad}
use Rattle.nbt_name.proofs.WireForms.{IsPassed, nothing, labels, step_passed}
use Rattle.nbt_name.proofs.Ends.{work, step_within, step_works}

data Look (form : Form) (octets : List ℕ) (s : Spot) : Type 0 where
  steps : (t : Spot) → Step form octets s t → Look form octets s
  closes : IsLater s → Finds octets s 0 → Look form octets s
  stuck : (f : NameFault) → Stuck form octets s f → Look form octets s

look_low : (octets : List ℕ) (s : Spot) (high : ℕ) → Finds octets s high → 0xC0 ≤ high → (o : Option ℕ) → slice_get octets (s.place + 1) ≡ o → Look Compressed octets s
look_low octets s high finds le None e = stuck _ (pointer_cut high refl finds le e)
look_low octets s high finds le (Some low) e =
    elim (cases_lt (target high low) s.place) [
      | inl back ↦ steps _ (pointer_leads high low refl finds le e back)
      | inr ahead ↦ stuck _ (pointer_onward high low refl finds le e ahead)
    ]

look_pointer : (form : Form) (octets : List ℕ) (s : Spot) (high : ℕ) → Finds octets s high → 0xC0 ≤ high → Look form octets s
look_pointer Plain octets s high finds le = stuck _ (pointer_plain high refl finds le)
look_pointer Compressed octets s high finds le = look_low octets s high finds le (slice_get octets (s.place + 1)) refl

look_first : (form : Form) (octets : List ℕ) (s : Spot) (n : ℕ) → IsFirst s → Finds octets s n → n < 0xC0 → Look form octets s
look_first form octets s n first finds small =
    elim (cases_eq n 0x20) [
      | inr other ↦ stuck _ (first_label_bad n first finds other small)
      | inl is ↦
          let found : Finds octets s 0x20 = rw is at finds in
          elim (letters_or_bad octets (s.place + 1) 32) [
            | inr (k, lt, before, bad) ↦ elim (cases_lt (s.place + 1 + k) (length octets)) [
              | inl within ↦ stuck _ (letters_bad _ first found (other_octet k lt before within bad))
              | inr past_end ↦ stuck _ (letters_bad _ first found (octets_end k lt before (ended octets s.place k (slice_get_within octets s.place n finds) before past_end)))
            ]
            | inl all ↦ elim (cases_lt (s.place + 32) (length octets)) [
              | inl within ↦ steps _ (letters_pass first found (omega arith) all)
              | inr cut ↦ absurd (none_past octets (s.place + 1 + 31) (omega arith) (all 31 (omega arith)))
            ]
          ]
    ]
  where
    none_past : (octets : List ℕ) (p : ℕ) → length octets ≤ p → ¬ IsLetter (slice_index octets p)
    none_past octets p le letter = omega (arith, get_or_past octets p 0 le)

    ended : (octets : List ℕ) (p k : ℕ) → p < length octets → LettersAt octets (p + 1) k → length octets ≤ p + 1 + k → p + 1 + k ≡ length octets
    ended octets p zero within before le = omega arith
    ended octets p (suc k) within before le =
        elim (cases_lt (p + 1 + k) (length octets)) [
          | inl lt ↦ omega arith
          | inr past_end ↦ absurd (none_past octets (p + 1 + k) past_end (before k (omega arith)))
        ]

look_label : (form : Form) (octets : List ℕ) (s : Spot) (n : ℕ) → IsLater s → Finds octets s n → 1 ≤ n → n ≤ 63 → Look form octets s
look_label form octets s n later finds low high =
    elim (cases_lt 255 (length s.passed + 1 + n + 1)) [
      | inl long ↦ stuck _ (label_long n later finds low high long)
      | inr room ↦ elim (cases_lt (length octets) (s.place + 1 + n)) [
        | inl cut ↦ stuck _ (label_cut n later finds low high room cut)
        | inr fits ↦ steps _ (label_passes n later finds low high room fits)
      ]
    ]

look_later : (form : Form) (octets : List ℕ) (s : Spot) (n : ℕ) → IsLater s → Finds octets s n → n < 0xC0 → Look form octets s
look_later form octets s n later finds small =
    elim (cases_eq n 0) [
      | inl is ↦ closes later (rw is at finds)
      | inr other ↦ elim (cases_lt n 0x40) [
        | inl label ↦ look_label form octets s n later finds (omega arith) (omega arith)
        | inr reserved ↦ stuck _ (label_bad n later finds reserved small)
      ]
    ]

first_or_later : (xs : List ℕ) → (xs ≡ []) ⊎ (xs ≢ [])
first_or_later [] = inl refl
first_or_later (x ∷ xs) = inr (λ e. absurd cc)

look_at : (form : Form) (octets : List ℕ) (s : Spot) (o : Option ℕ) → slice_get octets s.place ≡ o → Look form octets s
look_at form octets s None e = stuck _ (missing e)
look_at form octets s (Some n) e =
    elim (cases_lt n 0xC0) [
      | inr pointer ↦ look_pointer form octets s n e pointer
      | inl small ↦ elim (first_or_later s.passed) [
        | inl first ↦ look_first form octets s n first e small
        | inr later ↦ look_later form octets s n later e small
      ]
    ]

-- what a path from a spot leads to
pub data Leads (form : Form) (octets : List ℕ) (s : Spot) : Type 0 where
  to_name : (t : Spot) → Path form octets s t → IsLater t → Finds octets t 0 → IsPassed t.passed → Leads form octets s
  to_fault : (t : Spot) (f : NameFault) → Path form octets s t → Stuck form octets t f → Leads form octets s

leads_on : (form : Form) (octets : List ℕ) (s t : Spot) → Step form octets s t → Leads form octets t → Leads form octets s
leads_on form octets s t step (to_name u path later finds passed) = to_name u (onward s t u step path) later finds passed
leads_on form octets s t step (to_fault u f path at) = to_fault u f (onward s t u step path) at

leads : (form : Form) (octets : List ℕ) (fuel : ℕ) (s : Spot) → AreOctets octets → work octets s < fuel → s.place ≤ length octets → IsPassed s.passed → Leads form octets s
leads form octets zero s fits less within passed = absurd (omega arith)
leads form octets (suc fuel) s fits less within passed =
    elim (look_at form octets s (slice_get octets s.place) refl) [
      | closes later finds ↦ to_name s (here s) later finds passed
      | stuck f at ↦ to_fault s f (here s) at
      | steps t step ↦
          let lower : work octets t < work octets s = step_works octets within step in
          let below : work octets t < fuel = below_of (work octets t) (work octets s) fuel lower less in
          leads_on form octets s t step (leads form octets fuel t fits below (step_within octets within step) (step_passed octets fits step passed))
    ]
  where
    below_of : (a b c : ℕ) → a < b → b < suc c → a < c
    below_of a b c p q = omega arith

-- the name that was passed when the closing zero stands
name_stands : (form : Form) (octets : List ℕ) (place : ℕ) (t : Spot) → Path form octets (start place) t → IsLater t → Finds octets t 0 → IsPassed t.passed → (name : NameValue) × (next : ℕ) × Stands form octets place name next
name_stands form octets place t path later finds (nothing e) = absurd (later e)
name_stands form octets place t path later finds (labels name is_name e) = (
  name,
  unwrap_or t.resume (t.place + 1),
  record {
    spot = t;
    path = path;
    closes = record { later = later; zero = finds; spells = ap (λ (x : List ℕ). x ++ 0 ∷ []) e; is_name = is_name; next_is = refl };
  },
)

pub name_or_fault : (form : Form) (octets : List ℕ) (place : ℕ) → AreOctets octets → ((name : NameValue) × (next : ℕ) × Stands form octets place name next) ⊎ ((fault : NameFault) × Fails form octets place fault)
name_or_fault form octets place fits =
    elim (cases_lt (length octets) place) [
      | inl past_end ↦ inr (_, record { spot = start place; path = here (start place); stuck = missing (slice_get_past octets place (omega arith)) })
      | inr within ↦ elim (leads form octets (suc (work octets (start place))) (start place) fits (omega arith) within (nothing refl)) [
        | to_name t path later finds passed ↦ inl (name_stands form octets place t path later finds passed)
        | to_fault t f path at ↦ inr (f, record { spot = t; path = path; stuck = at })
      ]
    ]
