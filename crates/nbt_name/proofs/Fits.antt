-- Octets and the numbers that they spell have their ranges, and wire forms their sizes.
use Rattle.std.proofs.Common.{◌≡◌, ℕ, ◌+◌, ◌-◌, ◌^◌, ◌<◌, ◌≤◌, List, [], ◌∷◌, ◌++◌, length, take, drop, arith, inl, inr}
use Rattle.nbt_name.proofs.Common.{slice_index, slice_range, cases_lt, length-append, length-take, get_or-drop, get_or-take, get_or-eq_default, word_at, long_at, name_of, NameValue, IsName, AreOctets, letters, wire, wire_size}
use Rattle.nbt_name.proofs.Letters.{length-letters}

octets_drop : (n : ℕ) (xs : List ℕ) → AreOctets xs → AreOctets (drop n xs)
octets_drop n xs fits k = rw get_or-drop (fits (n + k))

pub octets_take : (n : ℕ) (xs : List ℕ) → AreOctets xs → AreOctets (take n xs)
octets_take n xs fits k =
    elim (cases_lt k n) [ inl less ↦ rw (get_or-take n xs k 0 less) (fits k) | inr more ↦ rw (past k more) (omega arith) ]
  where
    past : (k : ℕ) → n ≤ k → slice_index (take n xs) k ≡ 0
    past k more = get_or-eq_default (take n xs) 0 {n = k} (omega (arith, length-take n xs))

pub octets_range : (xs : List ℕ) (a b : ℕ) → AreOctets xs → AreOctets (slice_range xs a b)
octets_range xs a b fits = octets_take (b - a) (drop a xs) (octets_drop a xs fits)

pub word_fits : (octets : List ℕ) (place : ℕ) → AreOctets octets → word_at octets place < 2 ^ 16
word_fits octets place fits = omega (arith, octets_drop place octets fits 0, octets_drop place octets fits 1)

pub long_fits : (octets : List ℕ) (place : ℕ) → AreOctets octets → long_at octets place < 2 ^ 32
long_fits octets place fits =
    omega (arith, octets_drop place octets fits 0, octets_drop place octets fits 1, octets_drop place octets fits 2, octets_drop place octets fits 3)

pub length-wire : (n : NameValue) → IsName n → length (wire n) ≡ wire_size n
length-wire n is = omega (arith, length-append (letters n.octets ++ n.scope) (0 ∷ []), length-append (letters n.octets) n.scope, length-letters n.octets, is.sixteen)

-- the labels of a name are at most 255 octets
pub length-first : (sixteen scope : List ℕ) → IsName (name_of sixteen scope) → length (0x20 ∷ letters sixteen ++ scope) ≤ 255
length-first sixteen scope is = omega (arith, length-append (letters sixteen) scope, length-letters sixteen, is.sixteen, is.fits)
