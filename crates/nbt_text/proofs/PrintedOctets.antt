-- What is printed of sixteen octets spells them.
use Rattle.std.proofs.Common.{◌≡◌, ℕ, ◌-◌, ◌<◌, List, [], ◌∷◌, ◌++◌, length, map, true, false, sym, ap, refl, inl, inr, arith, zero, suc}
use Rattle.std.specs.Prelude.{Bool, slice_index, replicate, if◌then◌else◌}
use Rattle.std.specs.Char.{to_ascii_uppercase}
use Rattle.std.specs.Str.{bytes_eq}
use Rattle.hex.specs.Hex.{encode_lower, encode_upper}
use Rattle.hex.proofs.HexLemmas.{decode_of-encode_lower, decode_of-encode_upper}
use Rattle.nbt_name.specs.Wire.{AreOctets}
use Rattle.nbt_text.specs.NameText.{IsPrefixed}
use Rattle.nbt_text.specs.declared.casing.Case.{Case}
use Rattle.nbt_text.specs.declared.casing.Case.TheVariants.{Folded, Exact}
use Rattle.nbt_text.specs.SuffixedNames.{IsMark, IsCutAt, after_hash, blank, cased, fifteen, SpellsOctets, in_characters, in_digits, IsSeen, PrintsOctets, in_capitals, in_hexadecimal}

-- ---- capitals stay

blank_stays : (front : List ℕ) → to_ascii_uppercase (blank front) ≡ blank front
blank_stays front = go (bytes_eq front (0x2A ∷ []))
  where
    go : (b : Bool) → to_ascii_uppercase (if b then 0 else 0x20) ≡ (if b then 0 else 0x20)
    go true = refl
    go false = refl

replicate_stays : (n x : ℕ) → to_ascii_uppercase x ≡ x → map to_ascii_uppercase (replicate n x) ≡ replicate n x
replicate_stays zero x e = refl
replicate_stays (suc n) x e = rw (e, replicate_stays n x e) refl

pub map_stays : (xs ys : List ℕ) → ((k : ℕ) → k < length xs → to_ascii_uppercase (slice_index xs k) ≡ slice_index xs k) → map to_ascii_uppercase ys ≡ ys → map to_ascii_uppercase (xs ++ ys) ≡ xs ++ ys
map_stays [] ys each rest = rest
map_stays (x ∷ xs) ys each rest =
    let head : to_ascii_uppercase x ≡ x = each 0 (omega arith) in
    let behind = map_stays xs ys (λ k h. each (suc k) (omega arith)) rest in
    rw (head, behind) refl

pub fifteen_stays : (case : Case) (front : List ℕ) → IsSeen front → cased case (fifteen front) ≡ fifteen front
fifteen_stays Folded front seen = map_stays front (replicate (15 - length front) (blank front)) seen.capital (replicate_stays (15 - length front) (blank front) (blank_stays front))
fifteen_stays Exact front seen = refl

-- ---- what is printed

-- what begins with `hex:` begins with a small letter
pub unprefixed : (front rest : List ℕ) → IsSeen front → ¬ IsPrefixed (front ++ rest)
unprefixed [] rest seen p = omega (arith, seen.is_front.some)
unprefixed (x ∷ front) rest seen p =
    let first : x ≡ 104 = ap (λ (z : List ℕ). slice_index z 0) p.1 in
    let stays : to_ascii_uppercase x ≡ x = seen.capital 0 (omega arith) in
    let folded : to_ascii_uppercase 104 ≡ 104 = rw first at stays in
    omega (arith, folded)

pub last_fits : (front : List ℕ) (suffix : ℕ) → AreOctets (front ++ suffix ∷ []) → AreOctets (suffix ∷ [])
last_fits [] suffix fits = fits
last_fits (x ∷ front) suffix fits = last_fits front suffix (λ k. fits (suc k))

pub printed_spells : (case : Case) (octets word : List ℕ) → length octets ≡ 16 → AreOctets octets → PrintsOctets octets word → SpellsOctets case word octets
printed_spells case _ _ len fits (in_capitals front suffix seen) =
    let digits = encode_upper (suffix ∷ []) in
    let cut : IsCutAt IsMark (front ++ 0x23 ∷ digits) front (0x23 ∷ digits) = record { word_is = refl; none = seen.unmarked; first = inr (inl refl) } in
    in_characters front (0x23 ∷ digits) suffix (unprefixed front (0x23 ∷ digits) seen) cut seen.is_front
    (after_hash digits refl (decode_of-encode_upper (suffix ∷ []) (last_fits (fifteen front) suffix fits)))
    (ap (λ (z : List ℕ). z ++ suffix ∷ []) (sym (fifteen_stays case front seen)))
printed_spells case _ _ len fits (in_hexadecimal octets other) = in_digits (encode_lower octets) refl (decode_of-encode_lower octets fits) len
