-- The numbers of a server's faults (our profile).
use Rattle.std.specs.Prelude.{ℕ}
use Rattle.nbt_server.specs.declared.fault.ServerFault.{ServerFault}
use Rattle.nbt_server.specs.declared.fault.ServerFault.TheVariants as faults
use Rattle.nbt_server.specs.declared.fault.ResumeFault.{ResumeFault}
use Rattle.nbt_server.specs.declared.fault.ResumeFault.TheVariants as resume_faults
use Rattle.nbt_lease.specs.declared.fault.RestoreFault.{RestoreFault}
use Rattle.nbt_lease.specs.declared.fault.RestoreFault.TheVariants as restore_faults

abbrev pub server_fault_number : ServerFault → ℕ
server_fault_number faults.ClockBack = 1
server_fault_number faults.OutOfMemory = 2

abbrev pub resume_fault_number : ResumeFault → ℕ
resume_fault_number resume_faults.ClockBack = 1
resume_fault_number resume_faults.TableFull = 2
resume_fault_number resume_faults.Unsound = 3
resume_fault_number resume_faults.OutOfMemory = 4

-- why the leases aren't restored
abbrev pub resume_fault_of : RestoreFault → ResumeFault
resume_fault_of restore_faults.TableFull = resume_faults.TableFull
resume_fault_of restore_faults.Unsound = resume_faults.Unsound
resume_fault_of restore_faults.OutOfMemory = resume_faults.OutOfMemory
