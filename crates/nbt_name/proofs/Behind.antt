-- What stands in octets from a place on: words, ranges and names that were put there are read back.
use Rattle.std.proofs.Common.{◌≡◌, ℕ, ◌+◌, ◌-◌, ◌^◌, ◌<◌, List, ◌∷◌, ◌++◌, length, take, drop, Some, refl, sym, ap, subst, ◌∙◌, arith, append_assoc}
use Rattle.nbt_name.proofs.Common.{slice_get, slice_range, length-append, length-take-le, take_at, drop_at, drop-drop, take-append-drop, big_number, big_number-reads_back, word, long, word_at, long_at, NameValue, IsName, wire, NameAt, PlainNameAt}
use Rattle.nbt_name.proofs.ReadBack.{found_in, wire_is_read, plain_is_compressed}

-- the octets from a place on
pub record Behind (octets : List ℕ) (place : ℕ) (xs : List ℕ) : Type 0 where
  pub is : drop place octets ≡ xs
  pub within : place + length xs ≡ length octets

pub onward : {octets : List ℕ} {p : ℕ} (n : ℕ) (xs ys : List ℕ) → length xs ≡ n → Behind octets p (xs ++ ys) → Behind octets (p + n) ys
onward {octets} {p} n xs ys count b = record {
  is = sym (drop-drop n p octets) ∙ ap (drop n) b.is ∙ drop_at xs ys n count;
  within = omega (arith, b.within, length-append xs ys);
}

-- ---- numbers

pub word_back : (x : ℕ) (rest : List ℕ) → x < 2 ^ 16 → word_at (word x ++ rest) 0 ≡ x
word_back x rest fits = big_number-reads_back 2 x rest fits

pub long_back : (x : ℕ) (rest : List ℕ) → x < 2 ^ 32 → long_at (long x ++ rest) 0 ≡ x
long_back x rest fits = big_number-reads_back 4 x rest fits

pub word_there : {octets : List ℕ} {p : ℕ} (x : ℕ) (rest : List ℕ) → x < 2 ^ 16 → Behind octets p (word x ++ rest) → word_at octets p ≡ x
word_there x rest fits b = ap (big_number 2) b.is ∙ big_number-reads_back 2 x rest fits

pub long_there : {octets : List ℕ} {p : ℕ} (x : ℕ) (rest : List ℕ) → x < 2 ^ 32 → Behind octets p (long x ++ rest) → long_at octets p ≡ x
long_there x rest fits b = ap (big_number 4) b.is ∙ big_number-reads_back 4 x rest fits

-- ---- ranges and octets

pub range_there : {octets : List ℕ} {p : ℕ} (xs ys : List ℕ) → Behind octets p (xs ++ ys) → slice_range octets p (p + length xs) ≡ xs
range_there {octets} {p} xs ys b =
    let width : (p + length xs) - p ≡ length xs = omega arith in
    rw (width, b.is) (take_at xs ys (length xs) refl)

pub octet_there : {octets : List ℕ} {p : ℕ} (x : ℕ) (rest : List ℕ) → Behind octets p (x ∷ rest) → slice_get octets p ≡ Some x
octet_there {octets} {p} x rest b = found_in octets p x rest b.is

-- ---- names

pub plain_there : {octets : List ℕ} {p : ℕ} (name : NameValue) (rest : List ℕ) → IsName name → Behind octets p (wire name ++ rest) → PlainNameAt octets p name (p + length (wire name))
plain_there {octets} {p} name rest is_name b =
    let front : List ℕ = take p octets in
    let count : length front ≡ p = length-take-le p octets (omega (arith, b.within)) in
    let same : front ++ wire name ++ rest ≡ octets = append_assoc front (wire name) rest ∙ ap (λ (xs : List ℕ). front ++ xs) (sym b.is) ∙ take-append-drop p octets in
    subst (λ (xs : List ℕ). PlainNameAt xs p name (p + length (wire name))) same
    (subst (λ (k : ℕ). PlainNameAt (front ++ wire name ++ rest) k name (k + length (wire name))) count (wire_is_read name front rest is_name))

pub name_there : {octets : List ℕ} {p : ℕ} (name : NameValue) (rest : List ℕ) → IsName name → Behind octets p (wire name ++ rest) → NameAt octets p name (p + length (wire name))
name_there {octets} {p} name rest is_name b = plain_is_compressed octets p name (p + length (wire name)) (plain_there name rest is_name b)
