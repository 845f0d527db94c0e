-- What a line holds, as the code has it.
use Rattle.std.specs.Prelude.{ℕ, List}
use Rattle.nbt_show.specs.declared.vector.Expected.{Expected}
use Rattle.nbt_show.specs.declared.vector.Line.{Line}
use Rattle.nbt_show.specs.declared.vector.Line.TheVariants as line
use Rattle.nbt_show.specs.Verdicts.{SpellsVector}
use Rattle.nbt_text.specs.Lines.{IsPassedOver, words}

-- What stands in a line.
abbrev pub LineIs : List ℕ → Line → Type 0
LineIs text line.Blank = IsPassedOver text
LineIs text (line.Vector vector) = (¬ IsPassedOver text) × SpellsVector (words text) vector.octets.items vector.expected
LineIs text line.Unreadable = (¬ IsPassedOver text) × ((octets : List ℕ) (expected : Expected) → ¬ SpellsVector (words text) octets expected)
