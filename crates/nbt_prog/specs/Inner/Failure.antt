-- What each failure means for the program, and which failure one of another crate is.
use Rattle.std.specs.Prelude.{◌≡◌, ◌⊎◌, ℕ, Bool, true, false, List, [], Option, Some, None, codes}
use Rattle.nbt_args.specs.declared.refusal.Refusal.{Refusal}
use Rattle.nbt_args.specs.declared.refusal.Refusal.TheVariants as refusal
use Rattle.nbt_args.specs.declared.texts.AdminLine.TheVariants.{Scan}
use Rattle.nbt_args.specs.declared.texts.CommandLine.{CommandLine}
use Rattle.nbt_args.specs.declared.texts.CommandLine.TheVariants.{Admin}
use Rattle.nbt_port.specs.Faults.{fault_status, fault_line}
use Rattle.nbt_port.specs.declared.fault.Fault.{Fault as PortFault}
use Rattle.nbt_port.specs.declared.fault.Fault.TheVariants.{NoPort, NoClock, Device, Output, Store, Memory}
use Rattle.nbt_prog.specs.declared.offline.failure.Failure.{Failure as OfflineFailure}
use Rattle.nbt_prog.specs.declared.offline.failure.Failure.TheVariants as offline
use Rattle.nbt_text.specs.Lines.{one_line}
use Rattle.nbt_prog.specs.declared.failure.Failure.{Failure}
use Rattle.nbt_prog.specs.declared.failure.Failure.TheVariants.{Help, Usage, Unreadable, Complaint, Fault}

-- the status with which the program ends
abbrev pub failure_status : Failure → ℕ
failure_status (Help _) = 0
failure_status (Usage _) = 2
failure_status Unreadable = 1
failure_status Complaint = 2
failure_status (Fault fault) = fault_status fault

abbrev pub out_of_memory : Failure
out_of_memory = Fault Memory

-- help is no wrong usage, and neither is memory that is out
abbrev pub failure_of_usage : Refusal → Failure
failure_of_usage (refusal.Help text) = Help text
failure_of_usage (refusal.Wrong text) = Usage text
failure_of_usage refusal.Memory = out_of_memory

abbrev pub failure_of_offline : OfflineFailure → Failure
failure_of_offline offline.Unreadable = Unreadable
failure_of_offline (offline.Fault fault) = Fault fault

-- All that is printed at a failure: of help and wrong usage a text of which nothing is said; nothing of what standard error says.
abbrev pub failure_text : Failure → Option (List ℕ)
failure_text (Help _) = None
failure_text (Usage _) = None
failure_text Complaint = Some []
failure_text Unreadable = Some (one_line (codes "unreadable"))
failure_text (Fault fault) = Some (fault_line fault)

-- Whether each line that the command prints is an object of JSON.
abbrev pub prints_objects : CommandLine → Bool
prints_objects (Admin (Scan texts)) = texts.json
prints_objects _ = false

-- the line of a fault as such an object, with its word as a member (RFC 8259)
abbrev pub fault_object : PortFault → List ℕ
fault_object NoPort = one_line (codes "{\"error\":\"device\"}")
fault_object NoClock = one_line (codes "{\"error\":\"device\"}")
fault_object Device = one_line (codes "{\"error\":\"device\"}")
fault_object Output = []
fault_object Store = one_line (codes "{\"error\":\"device\"}")
fault_object Memory = one_line (codes "{\"error\":\"memory\"}")

-- all that is printed at a fault
abbrev pub fault_text : (in_objects : Bool) → PortFault → List ℕ
fault_text true fault = fault_object fault
fault_text false fault = fault_line fault

-- What ought to hold of the arguments does not, which is wrong usage; or memory is out, which may be at any step.
abbrev pub UsageFails : (Holds : Type 0) → Failure → Type 0
UsageFails Holds failure = (failure ≡ out_of_memory) ⊎ (¬ Holds × (failure_status failure ≡ 2))
