-- How a command ends that did its work.
use Rattle.std.specs.Prelude.{ℕ, Bool, true, false}
use Rattle.nbt_prog.specs.declared.offline.printed.Ending.{Ending}
use Rattle.nbt_prog.specs.declared.offline.printed.Ending.TheVariants.{Done, Refused}

-- the status with which the program ends
abbrev pub ending_status : Ending → ℕ
ending_status Done = 0
ending_status Refused = 1

-- nothing is refused
abbrev pub is_done : Ending → Bool
is_done Done = true
is_done Refused = false
