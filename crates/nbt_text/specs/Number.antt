-- Numbers as text (our profile).
use Rattle.std.specs.Prelude.{◌≡◌, ℕ, ◌^◌, ◌<◌, ◌≤◌, List}
use Rattle.std.specs.Str.Parse.{IsNumeral, digits_value}

-- The text is one decimal digit or more and nothing else, and the number that they write is below 2^64.
abbrev pub SpellsNumber : List ℕ → ℕ → Type 0
SpellsNumber text number = IsNumeral 10 text × (number ≡ digits_value 10 text) × (number < 2 ^ 64)

-- a number from a least one up to a greatest one
abbrev pub SpellsWithin : (least most : ℕ) → List ℕ → ℕ → Type 0
SpellsWithin least most text number = SpellsNumber text number × ((least ≤ number) × (number ≤ most))
