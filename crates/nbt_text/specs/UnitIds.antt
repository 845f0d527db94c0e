-- The unit id of a node as text (RFC 1002 section 4.2.18; our profile).
use Rattle.std.specs.Prelude.{ℕ, List, [], ◌∷◌, ◌++◌, slice_index, codes}
use Rattle.hex.specs.Hex.{encode_lower}

-- an octet after a colon
abbrev pub pair : ℕ → List ℕ
pair octet = codes ":" ++ encode_lower (octet ∷ [])

-- as `00:50:56:c0:00:08`
abbrev pub unit_digits : List ℕ → List ℕ
unit_digits unit = encode_lower (slice_index unit 0 ∷ []) ++ pair (slice_index unit 1) ++ pair (slice_index unit 2) ++ pair (slice_index unit 3) ++ pair (slice_index unit 4) ++ pair (slice_index unit 5)
