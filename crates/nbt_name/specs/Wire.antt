-- Names as octets: RFC 1001 section 14.1, RFC 1002 section 4.1.
use Rattle.std.specs.Prelude.{◌≡◌, ℕ, ◌+◌, ◌/◌, ◌%◌, ◌<◌, ◌≤◌, Bool, ◌&&◌, nat_eq, List, [], ◌∷◌, ◌++◌, length, slice_index}
use Rattle.std.specs.List.{flat_map}
use Rattle.std.specs.Str.{bytes_eq}
use Rattle.nbt_name.specs.Scope.{IsScope}

-- A name as contracts see it: its sixteen octets, and its scope.
pub record NameValue : Type 0 where
  pub octets : List ℕ
  pub scope : List ℕ

abbrev pub name_of : List ℕ → List ℕ → NameValue
name_of octets scope = record { octets = octets; scope = scope }

-- numbers below 256
abbrev pub AreOctets : List ℕ → Type 0
AreOctets xs = (k : ℕ) → slice_index xs k < 256

-- Sixteen octets, and a scope with which the wire form has at most 255 octets.
pub record IsName (name : NameValue) : Type 0 where
  pub sixteen : length name.octets ≡ 16
  pub fits : length name.scope ≤ 221
  pub labels : IsScope name.scope
  pub octets_fit : AreOctets name.octets
  pub scope_fits : AreOctets name.scope

-- two names are one where their octets are the same, and their scopes' octets
abbrev pub same_name : NameValue → NameValue → Bool
same_name a b = bytes_eq a.octets b.octets && bytes_eq a.scope b.scope

-- The name begins with `*`, as no node's does (RFC 1001 section 5.2); and the same as a test.
abbrev pub IsStar : NameValue → Type 0
IsStar name = slice_index name.octets 0 ≡ 0x2A

abbrev pub is_star : NameValue → Bool
is_star name = nat_eq (slice_index name.octets 0) 0x2A

-- Half-ASCII: each octet is two letters, its high half and its low half above `A`.
abbrev pub letters : List ℕ → List ℕ
letters octets = flat_map (λ o. (0x41 + o / 16) ∷ (0x41 + o % 16) ∷ []) octets

-- The wire form: a label of 32 letters, the scope's labels, and the closing zero.
abbrev pub wire : NameValue → List ℕ
wire name = 0x20 ∷ letters name.octets ++ name.scope ++ 0 ∷ []

-- how many octets it has
abbrev pub wire_size : NameValue → ℕ
wire_size name = 34 + length name.scope
