-- Why a command for people who run a network failed (our profile).
use Rattle.std.specs.Prelude.{◌≡◌, ◌⊎◌, ℕ, List}
use Rattle.std.specs.String.{string_bytes}
use Rattle.nbt_port.specs.declared.fault.Fault.TheVariants as fault
use Rattle.nbt_args.specs.declared.refusal.Refusal.{Refusal}
use Rattle.nbt_args.specs.declared.refusal.Refusal.TheVariants as refusal
use Rattle.nbt_admin.specs.declared.failure.BadArgument.{BadArgument}
use Rattle.nbt_admin.specs.declared.failure.Complaint.TheVariants as complaint
use Rattle.nbt_admin.specs.declared.failure.Failure.{Failure}
use Rattle.nbt_admin.specs.declared.failure.Failure.TheVariants.{Usage, Complaint, Fault}
use Rattle.nbt_admin.specs.declared.failure.ArgumentFault.{ArgumentFault}

abbrev pub out_of_memory : Failure
out_of_memory = Fault fault.Memory

-- help, the version and wrong usage are one failure
abbrev pub failure_of_usage : Refusal → Failure
failure_of_usage (refusal.Help text) = Usage text
failure_of_usage (refusal.Wrong text) = Usage text
failure_of_usage refusal.Memory = out_of_memory

-- the usage is wrong
abbrev pub IsUsage : Failure → Type 0
IsUsage (Usage text) = Unit {0}
IsUsage _ = ⊥

-- a port, a clock, a socket or the output failed, or it is out of memory
abbrev pub IsFault : Failure → Type 0
IsFault (Fault f) = Unit {0}
IsFault _ = ⊥

-- this text and this fault
pub record IsBad (text : List ℕ) (fault : ArgumentFault) (failure : Failure) : Type 0 where
  pub bad : BadArgument
  pub failure_is : failure ≡ Complaint (complaint.Argument bad)
  pub text_is : string_bytes bad.text ≡ text
  pub fault_is : bad.fault ≡ fault

-- the failure has them, unless memory is out
abbrev pub Reports : (text : List ℕ) → ArgumentFault → Failure → Type 0
Reports text fault failure = (failure ≡ out_of_memory) ⊎ IsBad text fault failure
