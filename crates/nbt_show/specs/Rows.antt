-- Rows of octets, and a line for each.
use Rattle.std.specs.Prelude.{◌≡◌, ◌<◌, ℕ, List, [], ◌++◌, length}

-- The octets are rows of `width` each, in order, and the text is their lines. What is left over, less than a row, has no line;
-- a reply's rows leave nothing over.
pub data PrintsRows (width : ℕ) (IsLine : List ℕ → List ℕ → Type 0) : List ℕ → List ℕ → Type 0 where
  no_row : (rest : List ℕ) → length rest < width → PrintsRows width IsLine rest []
  row : (octets rest line text : List ℕ) → length octets ≡ width → IsLine octets line → PrintsRows width IsLine rest text → PrintsRows width IsLine (octets ++ rest) (line ++ text)
