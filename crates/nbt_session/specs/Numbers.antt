-- The numbers of faults and refusals (our profile).
use Rattle.std.specs.Prelude.{ℕ, List, codes}
use Rattle.nbt_session.specs.declared.caller.Failure.{Failure}
use Rattle.nbt_session.specs.declared.caller.Failure.TheVariants as failures
use Rattle.nbt_session.specs.declared.fault.FaultKind.{FaultKind}
use Rattle.nbt_session.specs.declared.fault.FaultKind.TheVariants.{BadType, BadFlags, BadLength, BadName}
use Rattle.nbt_session.specs.declared.fault.StreamFault.{StreamFault}
use Rattle.nbt_session.specs.declared.fault.StreamFault.TheVariants as streams
use Rattle.nbt_session.specs.declared.fault.EncodeFault.{EncodeFault}
use Rattle.nbt_session.specs.declared.fault.EncodeFault.TheVariants as encodes

abbrev pub kind_number : FaultKind → ℕ
kind_number BadType = 1
kind_number BadFlags = 2
kind_number BadLength = 3
kind_number BadName = 4

-- the word by which a fault is printed
abbrev pub kind_word : FaultKind → List ℕ
kind_word BadType = codes "BadType"
kind_word BadFlags = codes "BadFlags"
kind_word BadLength = codes "BadLength"
kind_word BadName = codes "BadName"

abbrev pub stream_fault_number : StreamFault → ℕ
stream_fault_number (streams.Malformed fault) = kind_number fault.kind
stream_fault_number streams.OutOfMemory = 5

abbrev pub encode_fault_number : EncodeFault → ℕ
encode_fault_number encodes.TooLong = 1
encode_fault_number encodes.OutOfMemory = 2

abbrev pub failure_number : Failure → ℕ
failure_number failures.NoConnection = 1
failure_number (failures.Refused code) = 2
failure_number failures.Protocol = 3
failure_number failures.TooManyTries = 4
