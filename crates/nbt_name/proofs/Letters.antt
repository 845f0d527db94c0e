-- Half-ASCII: letters and the octets that they spell.
use Rattle.std.proofs.Common.{◌≡◌, ℕ, zero, suc, ◌+◌, ◌-◌, ◌*◌, ◌/◌, ◌%◌, ◌<◌, List, [], ◌∷◌, length, get_or, refl, sym, ap, subst, ◌∙◌, arith, inl, inr}
use Rattle.nbt_name.proofs.Common.{flat_map-cons, cases_lt, get_or-set_other, get_or-set_same, length-set, slice_set, AreOctets, letters, IsLetter}

-- the two letters of an octet
abbrev pub halves : ℕ → List ℕ
halves o = (0x41 + o / 16) ∷ (0x41 + o % 16) ∷ []

pub letters-cons : (o : ℕ) (os : List ℕ) → letters (o ∷ os) ≡ (0x41 + o / 16) ∷ (0x41 + o % 16) ∷ letters os
letters-cons o os = flat_map-cons halves o os

pub length-letters : (os : List ℕ) → length (letters os) ≡ 2 * length os
length-letters [] = refl
length-letters (o ∷ os) = ap length (letters-cons o os) ∙ (omega (arith, length-letters os))

-- all of a list are letters
abbrev pub AreLetters : List ℕ → Type 0
AreLetters ls = (k : ℕ) → k < length ls → IsLetter (get_or ls k 0)

-- letters that each octet's two halves are
pub letters_from_each : (os ls : List ℕ) → length ls ≡ 2 * length os → AreLetters ls
    → ((k : ℕ) → k < length os → get_or os k 0 ≡ (get_or ls (2 * k) 0 - 0x41) * 16 + (get_or ls (2 * k + 1) 0 - 0x41)) → letters os ≡ ls
letters_from_each [] [] e are each = refl
letters_from_each [] (l ∷ ls) e are each = absurd (omega arith)
letters_from_each (o ∷ os) [] e are each = absurd (omega arith)
letters_from_each (o ∷ os) (l ∷ []) e are each = absurd (omega arith)
letters_from_each (o ∷ os) (a ∷ b ∷ ls) e are each =
    let first : o ≡ (a - 0x41) * 16 + (b - 0x41) = each 0 (omega arith) in
    let pa : IsLetter a = are 0 (omega arith) in
    let pb : IsLetter b = are 1 (omega arith) in
    let high : 0x41 + o / 16 ≡ a = omega arith in
    let low : 0x41 + o % 16 ≡ b = omega arith in
    let others : letters os ≡ ls = letters_from_each os ls (omega arith) (λ k lt. are (suc (suc k)) (omega arith)) (λ k lt.
    let even : 2 * suc k ≡ suc (suc (2 * k)) = omega arith in
    let odd : 2 * suc k + 1 ≡ suc (suc (2 * k + 1)) = omega arith in
    rw (odd, even) at (each (suc k) (omega arith))) in
    letters-cons o os ∙ cc

-- the letters of an octet stand where its two halves belong
abbrev pub HalvesAt : List ℕ → List ℕ → ℕ → Type 0
HalvesAt os ls k = (get_or ls (2 * k) 0 ≡ 0x41 + get_or os k 0 / 16) × (get_or ls (2 * k + 1) 0 ≡ 0x41 + get_or os k 0 % 16)

pub letters_spelled : (os ls : List ℕ) → length ls ≡ 2 * length os
    → ((k : ℕ) → k < length os → HalvesAt os ls k) → ls ≡ letters os
letters_spelled [] [] e each = refl
letters_spelled [] (l ∷ ls) e each = absurd (omega arith)
letters_spelled (o ∷ os) [] e each = absurd (omega arith)
letters_spelled (o ∷ os) (l ∷ []) e each = absurd (omega arith)
letters_spelled (o ∷ os) (a ∷ b ∷ ls) e each =
    let first = each 0 (omega arith) in
    let high : a ≡ 0x41 + o / 16 = first.0 in
    let low : b ≡ 0x41 + o % 16 = first.1 in
    let others : ls ≡ letters os = letters_spelled os ls (omega arith) (λ k lt.
    let even : 2 * suc k ≡ suc (suc (2 * k)) = omega arith in
    let odd : 2 * suc k + 1 ≡ suc (suc (2 * k + 1)) = omega arith in
    rw (odd, even) at (each (suc k) (omega arith))) in
    let all : a ∷ b ∷ ls ≡ (0x41 + o / 16) ∷ (0x41 + o % 16) ∷ letters os = cc in
    all ∙ sym (letters-cons o os)

-- two letters are put where the halves of the next octet belong
abbrev pub with_halves : List ℕ → List ℕ → ℕ → List ℕ
with_halves os ls k = slice_set (slice_set ls (2 * k) (0x41 + get_or os k 0 / 16)) (2 * k + 1) (0x41 + get_or os k 0 % 16)

pub halves_put : (os ls : List ℕ) (k : ℕ) → 2 * k + 1 < length ls → ((i : ℕ) → i < k → HalvesAt os ls i) → (i : ℕ) → i < k + 1 → HalvesAt os (with_halves os ls k) i
halves_put os ls k within were i less = elim (cases_lt i k) [ inl before ↦ left before | inr last ↦ subst (HalvesAt os (with_halves os ls k)) (omega (arith, less, last)) there ]
  where
    high : ℕ
    high = 0x41 + get_or os k 0 / 16

    low : ℕ
    low = 0x41 + get_or os k 0 % 16

    there : HalvesAt os (with_halves os ls k) k
    there = (
      get_or-set_other (slice_set ls (2 * k) high) (2 * k + 1) (2 * k) low 0 (λ e. omega (arith, e)) ∙ get_or-set_same ls (2 * k) high 0 (omega (arith, within)),
      get_or-set_same (slice_set ls (2 * k) high) (2 * k + 1) low 0 (omega (arith, within, length-set ls (2 * k) high)),
    )

    left : i < k → HalvesAt os (with_halves os ls k) i
    left before = (
      get_or-set_other (slice_set ls (2 * k) high) (2 * k + 1) (2 * i) low 0 (λ e. omega (arith, e, before)) ∙ get_or-set_other ls (2 * k) (2 * i) high 0 (λ e. omega (arith, e, before)) ∙ (were i before).0,
      get_or-set_other (slice_set ls (2 * k) high) (2 * k + 1) (2 * i + 1) low 0 (λ e. omega (arith, e, before)) ∙ get_or-set_other ls (2 * k) (2 * i + 1) high 0 (λ e. omega (arith, e, before)) ∙ (were i before).1,
    )

pub length-with_halves : (os ls : List ℕ) (k : ℕ) → length (with_halves os ls k) ≡ length ls
length-with_halves os ls k = length-set (slice_set ls (2 * k) (0x41 + get_or os k 0 / 16)) (2 * k + 1) (0x41 + get_or os k 0 % 16) ∙ length-set ls (2 * k) (0x41 + get_or os k 0 / 16)

-- octets are told apart by their letters
pub octet_is : (o p : ℕ) → 0x41 + o / 16 ≡ 0x41 + p / 16 → 0x41 + o % 16 ≡ 0x41 + p % 16 → o ≡ p
octet_is o p high low = omega arith

pub letters_are : (os : List ℕ) → AreOctets os → AreLetters (letters os)
letters_are [] fit k lt = absurd (omega arith)
letters_are (o ∷ os) fit zero lt = let small : o < 256 = fit 0 in (omega arith, omega arith)
letters_are (o ∷ os) fit (suc zero) lt = let small : o < 256 = fit 0 in (omega arith, omega arith)
letters_are (o ∷ os) fit (suc (suc k)) lt = letters_are os (λ i. fit (suc i)) k (omega (arith, ap length (letters-cons o os)))

pub octets_cons : (o : ℕ) (os : List ℕ) → o < 256 → AreOctets os → AreOctets (o ∷ os)
octets_cons o os small fit zero = small
octets_cons o os small fit (suc k) = fit k

-- letters in pairs spell octets
pub letters_spell : (n : ℕ) (ls : List ℕ) → length ls ≡ 2 * n → AreLetters ls → (os : List ℕ) × (length os ≡ n) × AreOctets os × (letters os ≡ ls)
letters_spell zero [] e are = ([], refl, (λ k. omega arith), refl)
letters_spell zero (a ∷ ls) e are = absurd (omega arith)
letters_spell (suc n) [] e are = absurd (omega arith)
letters_spell (suc n) (a ∷ []) e are = absurd (omega arith)
letters_spell (suc n) (a ∷ b ∷ ls) e are =
    let pa : IsLetter a = are 0 (omega arith) in
    let pb : IsLetter b = are 1 (omega arith) in
    let rest = letters_spell n ls (omega arith) (λ k lt. are (suc (suc k)) (omega arith)) in
    let o : ℕ = (a - 0x41) * 16 + (b - 0x41) in
    let high : 0x41 + o / 16 ≡ a = omega arith in
    let low : 0x41 + o % 16 ≡ b = omega arith in
    let small : o < 256 = omega arith in
    (o ∷ rest.0, ap suc rest.1, octets_cons o rest.0 small rest.2, letters-cons o rest.0 ∙ both high low rest.3)
  where
    both : {x y x' y' : ℕ} {xs ys : List ℕ} → x ≡ x' → y ≡ y' → xs ≡ ys → x ∷ y ∷ xs ≡ x' ∷ y' ∷ ys
    both e f g = cc

-- and letters tell octets apart
pub letters_apart : (os ps : List ℕ) → length os ≡ length ps → letters os ≡ letters ps → os ≡ ps
letters_apart [] [] n e = refl
letters_apart [] (b ∷ ps) n e = absurd (omega arith)
letters_apart (a ∷ os) [] n e = absurd (omega arith)
letters_apart (a ∷ os) (b ∷ ps) n e =
    let cells : (0x41 + a / 16) ∷ (0x41 + a % 16) ∷ letters os ≡ (0x41 + b / 16) ∷ (0x41 + b % 16) ∷ letters ps = sym (letters-cons a os) ∙ e ∙ letters-cons b ps in
    let high : 0x41 + a / 16 ≡ 0x41 + b / 16 = cc in
    let low : 0x41 + a % 16 ≡ 0x41 + b % 16 = cc in
    let rest : letters os ≡ letters ps = cc in
    let first : a ≡ b = octet_is a b high low in
    let others : os ≡ ps = letters_apart os ps (omega arith) rest in
    cc
