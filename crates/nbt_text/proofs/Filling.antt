-- Characters filled up to fifteen, and their suffix.
use Rattle.std.proofs.Common.{◌≡◌, ℕ, ◌+◌, ◌-◌, ◌<◌, ◌≤◌, ◌⊎◌, List, [], ◌∷◌, ◌++◌, length, map, take, drop, get_or, true, false, sym, ◌∙◌, ap, refl, subst, inl, inr, arith, append_assoc, zero, suc}
use Rattle.std.specs.Prelude.{Bool, slice_index, replicate, if◌then◌else◌}
use Rattle.std.proofs.Math.ListN.{set}
use Rattle.std.proofs.Math.Seq.{set-append_seam, take-append_seam}
use Rattle.std.proofs.lemmas.Bool.{cases_lt}
use Rattle.std.proofs.lemmas.List.{get_or-take, get_or-drop, get_or-append_right, length-append, length-drop, length-map, length-replicate, length-take-le, map-append, nil_from_length, take-append-drop}
use Rattle.std.specs.Char.{to_ascii_uppercase}
use Rattle.std.specs.Str.{bytes_eq}
use Rattle.nbt_text.specs.declared.casing.Case.{Case}
use Rattle.nbt_text.specs.declared.casing.Case.TheVariants.{Folded, Exact}
use Rattle.nbt_text.specs.SuffixedNames.{IsCutAt, IsFront, IsSeen, blank, cased, fifteen}
use Rattle.nbt_text.specs.Inner.Blanks.{IsBlank}
use Rattle.nbt_text.proofs.Words.{cut_is_one}

-- ---- a cut at a place

pub cut_found : (These : ℕ → Type 0) (word : List ℕ) (n : ℕ) → n ≤ length word → ((k : ℕ) → k < n → ¬ These (slice_index word k)) → (n < length word → These (slice_index word n)) → IsCutAt These word (take n word) (drop n word)
cut_found These word n le none first =
    let short : length (take n word) ≡ n = length-take-le n word le in
    record {
      word_is = sym (take-append-drop n word);
      none = λ k h. let lt : k < n = omega (arith, short, h) in subst (λ (x : ℕ). ¬ These x) (sym (get_or-take n word k 0 lt)) (none k lt);
      first = elim (cases_lt n (length word)) [
        | inl lt ↦ inr (subst These (sym (get_or-drop n word 0 0 ∙ ap (λ (i : ℕ). get_or word i 0) (let e : n + 0 ≡ n = omega arith in e))) (first lt))
        | inr ge ↦ inl (nil_from_length (drop n word) (omega (arith, length-drop n word, ge)))
      ];
    }

-- ---- filling

replicate_more : (n x : ℕ) → replicate (suc n) x ≡ replicate n x ++ x ∷ []
replicate_more zero x = refl
replicate_more (suc n) x = ap (λ (xs : List ℕ). x ∷ xs) (replicate_more n x)

pub length-fifteen : (front : List ℕ) → length front ≤ 15 → length (fifteen front) ≡ 15
length-fifteen front few = omega (arith, length-append front (replicate (15 - length front) (blank front)), length-replicate (15 - length front) (blank front))

sixteen_parts : (front : List ℕ) (x : ℕ) → length front ≤ 15 → front ++ replicate (16 - length front) x ≡ (front ++ replicate (15 - length front) x) ++ x ∷ []
sixteen_parts front x few =
    let more : 16 - length front ≡ suc (15 - length front) = omega arith in
    rw (more, replicate_more (15 - length front) x) (sym (append_assoc front (replicate (15 - length front) x) (x ∷ [])))

set_last : (xs : List ℕ) (x suffix n : ℕ) → length xs ≡ n → set (xs ++ x ∷ []) n suffix ≡ xs ++ suffix ∷ []
set_last xs x suffix n len = rw (← len) (set-append_seam xs x [] suffix)

pub filled_is : (case : Case) (front : List ℕ) (suffix : ℕ) → length front ≤ 15 → set (cased case (front ++ replicate (16 - length front) (blank front))) 15 suffix ≡ cased case (fifteen front) ++ suffix ∷ []
filled_is Folded front suffix few =
    let folded : map to_ascii_uppercase (front ++ replicate (16 - length front) (blank front)) ≡ map to_ascii_uppercase (fifteen front) ++ to_ascii_uppercase (blank front) ∷ [] =
    ap (map to_ascii_uppercase) (sixteen_parts front (blank front) few) ∙ map-append to_ascii_uppercase (fifteen front) (blank front ∷ []) in
    rw folded (set_last (map to_ascii_uppercase (fifteen front)) (to_ascii_uppercase (blank front)) suffix 15 (length-map (fifteen front) to_ascii_uppercase ∙ length-fifteen front few))
filled_is Exact front suffix few =
    rw (sixteen_parts front (blank front) few) (set_last (fifteen front) (blank front) suffix 15 (length-fifteen front few))

-- ---- the one front that octets can have

blank_is : (front : List ℕ) → IsBlank (blank front)
blank_is front = go (bytes_eq front (0x2A ∷ []))
  where
    go : (b : Bool) → IsBlank (if b then 0 else 0x20)
    go true = inr refl
    go false = inl refl

blanks_first : (n x : ℕ) → IsBlank x → (replicate n x ≡ []) ⊎ IsBlank (slice_index (replicate n x) 0)
blanks_first zero x is = inl refl
blanks_first (suc n) x is = inr is

not_blank : (x : ℕ) → 0x21 ≤ x → ¬ IsBlank x
not_blank x h (inl e) = omega (arith, h, e)
not_blank x h (inr e) = omega (arith, h, e)

fifteen_cut : (front : List ℕ) → IsFront front → IsCutAt IsBlank (fifteen front) front (replicate (15 - length front) (blank front))
fifteen_cut front is = record {
  word_is = refl;
  none = λ k h. not_blank (slice_index front k) (is.plain k h).0;
  first = blanks_first (15 - length front) (blank front) (blank_is front);
}

take_fifteen : (front : List ℕ) (suffix : ℕ) → length front ≤ 15 → take 15 (fifteen front ++ suffix ∷ []) ≡ fifteen front
take_fifteen front suffix few =
    subst (λ (n : ℕ). take n (fifteen front ++ suffix ∷ []) ≡ fifteen front) (length-fifteen front few) (take-append_seam (fifteen front) (suffix ∷ []))

pub last_is : (front : List ℕ) (suffix : ℕ) → length front ≤ 15 → slice_index (fifteen front ++ suffix ∷ []) 15 ≡ suffix
last_is front suffix few = get_or-append_right (fifteen front) (suffix ∷ []) 15 15 0 (length-fifteen front few) (omega arith)

pub front_is_one : (octets found rest front : List ℕ) (suffix : ℕ) → IsCutAt IsBlank (take 15 octets) found rest → IsSeen front → octets ≡ fifteen front ++ suffix ∷ [] → (found ≡ front) × (slice_index octets 15 ≡ suffix)
front_is_one octets found rest front suffix cut seen e =
    let few = seen.is_front.few in
    let taken : take 15 octets ≡ fifteen front = ap (take 15) e ∙ take_fifteen front suffix few in (
      (cut_is_one IsBlank (take 15 octets) (fifteen front) found front rest (replicate (15 - length front) (blank front)) cut (fifteen_cut front seen.is_front) taken).0,
      ap (λ (xs : List ℕ). slice_index xs 15) e ∙ last_is front suffix few,
    )
