-- A word is cut in one way, and spells one row of octets or has one fault.
use Rattle.std.proofs.Common.{◌≡◌, ℕ, ◌⊎◌, List, [], ◌∷◌, ◌++◌, Ok, sym, ◌∙◌, ap, refl, subst, inl, inr, arith, suc}
use Rattle.std.specs.Prelude.{slice_index}
use Rattle.std.proofs.lemmas.Bool.{cases_order}
use Rattle.std.proofs.lemmas.List.{append_cancel_left, append_cancel_right}
use Rattle.hex.specs.Hex.{decode_of}
use Rattle.hex.proofs.HexLemmas.{decode_of-same}
use Rattle.nbt_text.specs.NameText.{prefix}
use Rattle.nbt_text.specs.declared.casing.Case.{Case}
use Rattle.nbt_text.specs.declared.fault.Fault.{Fault}
use Rattle.nbt_text.specs.declared.fault.Fault.TheVariants as f
use Rattle.nbt_text.specs.SuffixedNames.{IsMark, HasNone, IsCutAt, IsFront, IsSuffix, left_out, after_hash, in_brackets, blank, SpellsOctets, in_characters, in_digits, IsBadFront, has_none, has_many, has_other, Misspells, bad_digits, bad_front, bad_suffix}

-- ---- cuts

-- nothing, or what begins with one of these
abbrev IsTail : (ℕ → Type 0) → List ℕ → Type 0
IsTail These tail = (tail ≡ []) ⊎ These (slice_index tail 0)

HasNone-rest : (These : ℕ → Type 0) (x : ℕ) (xs : List ℕ) → HasNone These (x ∷ xs) → HasNone These xs
HasNone-rest These x xs none k h = none (suc k) (omega arith)

starts_late : (These : ℕ → Type 0) (c : ℕ) (b x y : List ℕ) → HasNone These (c ∷ b) → IsTail These x → x ≡ (c ∷ b) ++ y → ⊥
starts_late These c b x y none (inl n) e = absurd cc
starts_late These c b x y none (inr m) e = none 0 (omega arith) (subst (λ (z : List ℕ). These (slice_index z 0)) e m)

split_is_one : (These : ℕ → Type 0) (a b x y : List ℕ) → HasNone These a → HasNone These b → IsTail These x → IsTail These y → a ++ x ≡ b ++ y → (a ≡ b) × (x ≡ y)
split_is_one These [] [] x y na nb tx ty e = (refl, e)
split_is_one These [] (c ∷ b) x y na nb tx ty e = absurd (starts_late These c b x y nb tx e)
split_is_one These (c ∷ a) [] x y na nb tx ty e = absurd (starts_late These c a y x na ty (sym e))
split_is_one These (c ∷ a) (d ∷ b) x y na nb tx ty e =
    let head : c ≡ d = cc in
    let behind : a ++ x ≡ b ++ y = cc in
    let rest = split_is_one These a b x y (HasNone-rest These c a na) (HasNone-rest These d b nb) tx ty behind in
    (rw (head, rest.0) refl, rest.1)

pub cut_is_one : (These : ℕ → Type 0) (v w a b x y : List ℕ) → IsCutAt These v a x → IsCutAt These w b y → v ≡ w → (a ≡ b) × (x ≡ y)
cut_is_one These v w a b x y c d e = split_is_one These a b x y c.none d.none c.first d.first (sym c.word_is ∙ e ∙ d.word_is)

-- ---- suffixes

heads : (a b : ℕ) (x y : List ℕ) → a ∷ x ≡ b ∷ y → a ≡ b
heads a b x y e = cc

one_octet : (s t : List ℕ) (a b : ℕ) → decode_of s ≡ Ok (a ∷ []) → decode_of t ≡ Ok (b ∷ []) → s ≡ t → a ≡ b
one_octet s t a b d h e = heads a b [] [] (decode_of-same t (a ∷ []) (b ∷ []) (subst (λ (z : List ℕ). decode_of z ≡ Ok (a ∷ [])) e d) h)

pub hash_suffix : (usual : ℕ) (tail rest : List ℕ) (a : ℕ) → IsSuffix usual tail a → tail ≡ 0x23 ∷ rest → decode_of rest ≡ Ok (a ∷ [])
hash_suffix usual tail rest a (left_out none is) e = absurd cc
hash_suffix usual tail rest a (after_hash digits is d) e = let same : digits ≡ rest = cc in subst (λ (z : List ℕ). decode_of z ≡ Ok (a ∷ [])) same d
hash_suffix usual tail rest a (in_brackets digits is d) e = let bad = heads 0x3C 0x23 (digits ++ 0x3E ∷ []) rest (sym is ∙ e) in absurd (omega (arith, bad))

pub bracket_suffix : (usual : ℕ) (tail rest : List ℕ) (a : ℕ) → IsSuffix usual tail a → tail ≡ 0x3C ∷ (rest ++ 0x3E ∷ []) → decode_of rest ≡ Ok (a ∷ [])
bracket_suffix usual tail rest a (left_out none is) e = absurd cc
bracket_suffix usual tail rest a (after_hash digits is d) e = let bad = heads 0x23 0x3C digits (rest ++ 0x3E ∷ []) (sym is ∙ e) in absurd (omega (arith, bad))
bracket_suffix usual tail rest a (in_brackets digits is d) e =
    let whole : 0x3C ∷ (digits ++ 0x3E ∷ []) ≡ 0x3C ∷ (rest ++ 0x3E ∷ []) = sym is ∙ e in
    let behind : digits ++ 0x3E ∷ [] ≡ rest ++ 0x3E ∷ [] = cc in
    subst (λ (z : List ℕ). decode_of z ≡ Ok (a ∷ [])) (append_cancel_right digits rest (0x3E ∷ []) behind) d

pub suffix_is_one : (usual : ℕ) (tail : List ℕ) (a b : ℕ) → IsSuffix usual tail a → IsSuffix usual tail b → a ≡ b
suffix_is_one usual tail a b (left_out none is) (left_out also as_well) = is ∙ sym as_well
suffix_is_one usual tail a b (left_out none is) (after_hash digits e d) = absurd cc
suffix_is_one usual tail a b (left_out none is) (in_brackets digits e d) = absurd cc
suffix_is_one usual tail a b (after_hash digits e d) other = one_octet digits digits a b d (hash_suffix usual tail digits b other e) refl
suffix_is_one usual tail a b (in_brackets digits e d) other = one_octet digits digits a b d (bracket_suffix usual tail digits b other e) refl

-- ---- characters

pub front_not_bad : (front : List ℕ) (fault : Fault) → IsFront front → IsBadFront front fault → ⊥
front_not_bad front _ is (has_none none) = omega (arith, is.some, none)
front_not_bad front _ is (has_many many) = omega (arith, is.few, many)
front_not_bad front _ is (has_other place few within before other) = other (is.plain place within)

pub bad_front_is_one : (front : List ℕ) (x y : Fault) → IsBadFront front x → IsBadFront front y → x ≡ y
bad_front_is_one front _ _ (has_none none) (has_none also) = refl
bad_front_is_one front _ _ (has_none none) (has_many many) = absurd (omega (arith, none, many))
bad_front_is_one front _ _ (has_none none) (has_other q few within before other) = absurd (omega (arith, none, within))
bad_front_is_one front _ _ (has_many many) (has_none none) = absurd (omega (arith, none, many))
bad_front_is_one front _ _ (has_many many) (has_many more) = refl
bad_front_is_one front _ _ (has_many many) (has_other q few within before other) = absurd (omega (arith, many, few))
bad_front_is_one front _ _ (has_other p few within before other) (has_none none) = absurd (omega (arith, none, within))
bad_front_is_one front _ _ (has_other p few within before other) (has_many many) = absurd (omega (arith, many, few))
bad_front_is_one front _ _ (has_other p few within before other) (has_other q less inside ahead strange) = ap f.Character (elim (cases_order p q) [
  | inl same ↦ same
  | inr (inl below) ↦ absurd (other (ahead p below))
  | inr (inr above) ↦ absurd (strange (before q above))
])

-- ---- words

same_cut : (word a b x y : List ℕ) → IsCutAt IsMark word a x → IsCutAt IsMark word b y → (a ≡ b) × (x ≡ y)
same_cut word a b x y c d = cut_is_one IsMark word word a b x y c d refl

other_digits : (word digits others : List ℕ) → word ≡ prefix ++ digits → word ≡ prefix ++ others → others ≡ digits
other_digits word digits others e h = append_cancel_left prefix others digits (sym h ∙ e)

pub octets_are_one : (case : Case) (word a b : List ℕ) → SpellsOctets case word a → SpellsOctets case word b → a ≡ b
octets_are_one case word a b (in_characters front tail s np cut is_front is_suffix e) (in_characters behind rest t nq also _ is h) =
    let same = same_cut word front behind tail rest cut also in
    let suffix : s ≡ t = suffix_is_one (blank front) tail s t is_suffix (rw (same.0, same.1) is) in
    e ∙ rw (same.0, suffix) refl ∙ sym h
octets_are_one case word a b (in_characters front tail s np cut is_front is_suffix e) (in_digits digits h d len) = absurd (np (digits, h))
octets_are_one case word a b (in_digits digits h d len) (in_characters front tail s np cut is_front is_suffix e) = absurd (np (digits, h))
octets_are_one case word a b (in_digits digits e d len) (in_digits others h x _) =
    decode_of-same digits a b d (subst (λ (z : List ℕ). decode_of z ≡ Ok b) (other_digits word digits others e h) x)

pub not_both : (case : Case) (word octets : List ℕ) (fault : Fault) → SpellsOctets case word octets → Misspells word fault → ⊥
not_both case word octets _ (in_characters front tail s np cut is_front is_suffix e) (bad_digits digits h none) = np (digits, h)
not_both case word octets _ (in_characters front tail s np cut is_front is_suffix e) (bad_front behind rest fault nq also bad) =
    front_not_bad behind fault (subst IsFront (same_cut word front behind tail rest cut also).0 is_front) bad
not_both case word octets _ (in_characters front tail s np cut is_front is_suffix e) (bad_suffix behind rest nq also _ none) =
    let same = same_cut word front behind tail rest cut also in
    none s (subst (λ (z : List ℕ). IsSuffix (blank z) rest s) same.0 (subst (λ (z : List ℕ). IsSuffix (blank front) z s) same.1 is_suffix))
not_both case word octets _ (in_digits digits e d len) (bad_digits others h none) =
    none octets (subst (λ (z : List ℕ). decode_of z ≡ Ok octets) (other_digits word others digits h e) d) len
not_both case word octets _ (in_digits digits e d len) (bad_front behind rest fault nq also bad) = nq (digits, e)
not_both case word octets _ (in_digits digits e d len) (bad_suffix behind rest nq also _ none) = nq (digits, e)

pub fault_is_one : (word : List ℕ) (a b : Fault) → Misspells word a → Misspells word b → a ≡ b
fault_is_one word _ _ (bad_digits digits e none) (bad_digits others h nope) = refl
fault_is_one word _ _ (bad_digits digits e none) (bad_front behind rest fault nq also bad) = absurd (nq (digits, e))
fault_is_one word _ _ (bad_digits digits e none) (bad_suffix behind rest nq also front nope) = absurd (nq (digits, e))
fault_is_one word _ _ (bad_front front tail fault np cut bad) (bad_digits digits e none) = absurd (np (digits, e))
fault_is_one word _ _ (bad_front front tail fault np cut bad) (bad_front behind rest other nq also worse) =
    bad_front_is_one behind fault other (subst (λ (z : List ℕ). IsBadFront z fault) (same_cut word front behind tail rest cut also).0 bad) worse
fault_is_one word _ _ (bad_front front tail fault np cut bad) (bad_suffix behind rest nq also is_front nope) =
    absurd (front_not_bad behind fault is_front (subst (λ (z : List ℕ). IsBadFront z fault) (same_cut word front behind tail rest cut also).0 bad))
fault_is_one word _ _ (bad_suffix front tail np cut is_front none) (bad_digits digits e nope) = absurd (np (digits, e))
fault_is_one word _ _ (bad_suffix front tail np cut is_front none) (bad_front behind rest fault nq also bad) =
    absurd (front_not_bad behind fault (subst IsFront (same_cut word front behind tail rest cut also).0 is_front) bad)
fault_is_one word _ _ (bad_suffix front tail np cut is_front none) (bad_suffix behind rest nq also _ nope) = refl
