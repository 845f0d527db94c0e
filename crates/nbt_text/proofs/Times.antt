-- The digits of a time, and the colon of an address.
use Rattle.std.proofs.Common.{◌≡◌, ℕ, ◌-◌, List, [], ◌∷◌, ◌++◌, length, get_or, Option, Some, None, sym, ◌∙◌, ap, refl, subst, inl, inr, arith, length-append, zero, suc}
use Rattle.std.specs.Prelude.{slice_index, MatchOption}
use Rattle.std.specs.Str.Parse.{AllDigits}
use Rattle.std.proofs.lemmas.List.{append-nil, get_or-append_right}
use Rattle.std.proofs.lemmas.Str.Parse.{tells_digits}
use denote.Ref.{Bor}
use Rattle.nbt_text.specs.Lines.{HasNo}
use Rattle.nbt_text.specs.SuffixedNames.{HasNone, IsCutAt}
use Rattle.nbt_text.specs.Inner.Blanks.{IsNoDigit}
use Rattle.nbt_text.specs.Number.{SpellsNumber}
use Rattle.nbt_text.specs.Times.{HasOtherUnit, IsOtherUnit, IsUnit, SpellsTime}
use Rattle.nbt_text.proofs.Words.{cut_is_one}

-- ---- times

HasNone-digits : (digits : List ℕ) → AllDigits 10 digits → HasNone IsNoDigit digits
HasNone-digits [] all k h = λ is. absurd (omega arith)
HasNone-digits (c ∷ cs) all zero h = λ is. let d = (tells_digits.parts c cs all).0 in elim is [ inl low ↦ omega (arith, low, d.0) | inr high ↦ omega (arith, high, d.1) ]
HasNone-digits (c ∷ cs) all (suc k) h = HasNone-digits cs (tells_digits.parts c cs all).1 k (omega arith)

unit_first : (unit : List ℕ) (each : ℕ) → IsUnit unit each → IsNoDigit (slice_index unit 0)
unit_first unit each (inl is) = rw is.0 (inr (omega arith))
unit_first unit each (inr (inl is)) = rw is.0 (inr (omega arith))
unit_first unit each (inr (inr (inl is))) = rw is.0 (inr (omega arith))
unit_first unit each (inr (inr (inr (inl is)))) = rw is.0 (inr (omega arith))
unit_first unit each (inr (inr (inr (inr is)))) = rw is.0 (inr (omega arith))

pub time_parts : (text digits unit : List ℕ) (time : ℕ) → IsCutAt IsNoDigit text digits unit → (s : SpellsTime text time) → (s.digits ≡ digits) × (s.unit ≡ unit)
time_parts text digits unit time cut s =
    let spelled : IsCutAt IsNoDigit text s.digits s.unit = record { word_is = s.text_is; none = HasNone-digits s.digits s.spells.0.1; first = inr (unit_first s.unit s.each s.is_unit) } in
    cut_is_one IsNoDigit text text s.digits digits s.unit unit spelled cut refl

-- digits alone are cut behind the last of them
pub number_parts : (text digits unit : List ℕ) (number : ℕ) → IsCutAt IsNoDigit text digits unit → SpellsNumber text number → (digits ≡ text) × (unit ≡ [])
number_parts text digits unit number cut s =
    let spelled : IsCutAt IsNoDigit text text [] = record { word_is = sym (append-nil text); none = HasNone-digits text s.0.1; first = inl refl } in
    cut_is_one IsNoDigit text text digits text unit [] cut spelled refl

letter_first : (unit : List ℕ) → IsOtherUnit unit → IsNoDigit (slice_index unit 0)
letter_first unit other = let letter = other.letters 0 other.some in elim letter [ inl capital ↦ inr (omega (arith, capital.0)) | inr small ↦ inr (omega (arith, small.0)) ]

-- letters that are no unit begin behind the last digit
pub other_parts : (text digits unit : List ℕ) → IsCutAt IsNoDigit text digits unit → (s : HasOtherUnit text) → (s.digits ≡ digits) × (s.unit ≡ unit)
other_parts text digits unit cut s =
    let spelled : IsCutAt IsNoDigit text s.digits s.unit = record { word_is = s.text_is; none = HasNone-digits s.digits s.spells.0.1; first = inr (letter_first s.unit s.is_other) } in
    cut_is_one IsNoDigit text text s.digits digits s.unit unit spelled cut refl

-- nothing stands behind them
pub no_more : (text digits unit : List ℕ) → length unit ≡ 0 → text ≡ digits ++ unit → text ≡ digits
no_more text digits [] none e = e ∙ append-nil digits
no_more text digits (c ∷ cs) none e = absurd (omega arith)

-- ---- colons

colon_within : (front rest : List ℕ) → ¬ HasNo 0x3A (front ++ 0x3A ∷ rest)
colon_within front rest none =
    none (length front) (omega (arith, length-append front (0x3A ∷ rest))) (get_or-append_right front (0x3A ∷ rest) (length front) (length front) 0 refl (omega arith) ∙ ap (λ (k : ℕ). get_or (0x3A ∷ rest) k 0) (let e : length front - length front ≡ 0 = omega arith in e))

pub has_colon : (text octets front : List ℕ) (r : Option (Bor (List ℕ))) (port : Bor (List ℕ)) → octets ≡ text → MatchOption r (octets ≡ front) (λ rest. octets ≡ front ++ 0x3A ∷ rest.now) → r ≡ Some port → ¬ HasNo 0x3A text
has_colon text octets front None port same whole e none = absurd cc
has_colon text octets front (Some rest) port same whole e none = colon_within front rest.now (subst (HasNo 0x3A) (sym same ∙ whole) none)
