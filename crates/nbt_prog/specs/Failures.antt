-- Which failure an error of a library is, and which one says that a text can't be read.
use Rattle.std.specs.Prelude.{◌≡◌, ◌⊎◌}
use Rattle.hex.specs.declared.error.FromHexError.{FromHexError}
use Rattle.hex.specs.declared.error.FromHexError.TheVariants as hex_error
use Rattle.nbt_port.specs.declared.fault.Fault.TheVariants.{Memory}
use Rattle.nbt_prog.specs.declared.offline.failure.Failure.{Failure}
use Rattle.nbt_prog.specs.declared.offline.failure.Failure.TheVariants.{Unreadable, Fault}

abbrev pub out_of_memory : Failure
out_of_memory = Fault Memory

-- a text that hex does not decode can't be read, unless it is out of memory
abbrev pub failure_of_hex : FromHexError → Failure
failure_of_hex hex_error.OutOfMemory = out_of_memory
failure_of_hex _ = Unreadable

-- What ought to hold of the texts does not, and so they can't be read; or it is out of memory, which may be at any step.
abbrev pub IsUnreadable : (Holds : Type 0) → Failure → Type 0
IsUnreadable Holds failure = (failure ≡ out_of_memory) ⊎ (¬ Holds × (failure ≡ Unreadable))
