-- The numbers of faults (our profile).
use Rattle.std.specs.Prelude.{ℕ}
use Rattle.nbt_lease.specs.declared.fault.ConfigFault.{ConfigFault}
use Rattle.nbt_lease.specs.declared.fault.ConfigFault.TheVariants as config_faults
use Rattle.nbt_lease.specs.declared.fault.GrantFault.{GrantFault}
use Rattle.nbt_lease.specs.declared.fault.GrantFault.TheVariants as grant_faults
use Rattle.nbt_lease.specs.declared.fault.RestoreFault.{RestoreFault}
use Rattle.nbt_lease.specs.declared.fault.RestoreFault.TheVariants as restore_faults

abbrev pub config_fault_number : ConfigFault → ℕ
config_fault_number config_faults.Life = 1
config_fault_number config_faults.Longest = 2
config_fault_number config_faults.Rows = 3

abbrev pub grant_fault_number : GrantFault → ℕ
grant_fault_number grant_faults.Active = 1
grant_fault_number grant_faults.TableFull = 2
grant_fault_number grant_faults.GroupFull = 3
grant_fault_number grant_faults.OutOfMemory = 4

abbrev pub restore_fault_number : RestoreFault → ℕ
restore_fault_number restore_faults.TableFull = 1
restore_fault_number restore_faults.Unsound = 2
restore_fault_number restore_faults.OutOfMemory = 3
