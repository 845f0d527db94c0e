-- The numbers of what a word can have wrong (our profile).
use Rattle.std.specs.Prelude.{ℕ}
use Rattle.nbt_text.specs.declared.fault.Fault.{Fault}
use Rattle.nbt_text.specs.declared.fault.Fault.TheVariants as f

abbrev pub fault_number : Fault → ℕ
fault_number f.Empty = 1
fault_number (f.Long count) = 2
fault_number (f.Character place) = 3
fault_number f.Suffix = 4
fault_number f.Digits = 5
fault_number f.Scope = 6
