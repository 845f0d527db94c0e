-- The first octet, where there is one.
use Rattle.std.proofs.Common.{◌≡◌, ℕ, ◌<◌, List, [], ◌∷◌, length, Some, None, refl}
use Rattle.std.specs.Prelude.{slice_get}
use Rattle.std.proofs.lemmas.Option.{get_or_from_slice_get, slice_get_within}
use Rattle.nbt_dgram.specs.Fields.{octet_at}

pub none_is_empty : (octets : List ℕ) → slice_get octets 0 ≡ None → length octets ≡ 0
none_is_empty [] e = refl
none_is_empty (x ∷ xs) e = absurd cc

pub first_is : (octets : List ℕ) (x : ℕ) → slice_get octets 0 ≡ Some x → (0 < length octets) × (octet_at octets 0 ≡ x)
first_is octets x e = (slice_get_within octets 0 x e, get_or_from_slice_get octets 0 x 0 e)
