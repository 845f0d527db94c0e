-- How a command ends.
use Rattle.std.specs.Prelude.{ℕ, List, Option, Some, Result, Ok, Err}
use Rattle.std.specs.String.{string_bytes}
use Rattle.nbt_prog.specs.Printed.{ending_status}
use Rattle.nbt_prog.specs.declared.offline.printed.Printed.{Printed}
use Rattle.nbt_prog.specs.declared.failure.Failure.{Failure}
use Rattle.nbt_prog.specs.Inner.Failure.{failure_status, failure_text}

-- the status with which the program ends, where the writer takes all that is printed
abbrev pub status_of_outcome : Result Printed Failure → ℕ
status_of_outcome (Ok printed) = ending_status printed.ending
status_of_outcome (Err failure) = failure_status failure

-- all that is printed: the whole output, or what a failure says
abbrev pub text_of_outcome : Result Printed Failure → Option (List ℕ)
text_of_outcome (Ok printed) = Some (string_bytes printed.text)
text_of_outcome (Err failure) = failure_text failure
