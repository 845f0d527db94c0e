-- Scopes: RFC 1001 section 14.1, RFC 1002 section 4.1.
use Rattle.std.specs.Prelude.{ℕ, ◌≤◌, List, [], ◌∷◌, ◌++◌, length}

-- A scope is empty, or a label of 1 to 63 octets after its length octet, and then a scope.
pub data IsScope : List ℕ → Type 0 where
  empty : IsScope []
  label : (octets scope : List ℕ) → 1 ≤ length octets → length octets ≤ 63 → IsScope scope
      → IsScope (length octets ∷ octets ++ scope)
