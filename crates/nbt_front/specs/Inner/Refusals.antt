-- What is said of a file whose line isn't taken.
use Rattle.std.specs.Prelude.{ℕ}
use Rattle.nbt_front.specs.declared.fault.FileFault.{FileFault}
use Rattle.nbt_front.specs.declared.fault.FileFault.TheVariants as file
use Rattle.nbt_front.specs.declared.fault.Refused.{Refused}
use Rattle.nbt_front.specs.declared.fault.Refused.TheVariants.{Line, Memory}

-- what is said of the file where it says so of the line of this number
abbrev pub fault_at : (number : ℕ) → Refused → FileFault
fault_at number (Line fault) = file.Line number fault
fault_at number Memory = file.Memory
