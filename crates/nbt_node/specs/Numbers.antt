-- The numbers of refusals, and the words by which they are printed (our profile).
use Rattle.std.specs.Prelude.{ℕ, List, codes}
use Rattle.nbt_node.specs.declared.fault.AskFault.{AskFault}
use Rattle.nbt_node.specs.declared.fault.AskFault.TheVariants as asks
use Rattle.nbt_node.specs.declared.fault.ReleaseFault.{ReleaseFault}
use Rattle.nbt_node.specs.declared.fault.ReleaseFault.TheVariants as releases
use Rattle.nbt_node.specs.declared.fault.LookupFault.{LookupFault}
use Rattle.nbt_node.specs.declared.fault.LookupFault.TheVariants as lookups

abbrev pub ask_fault_number : AskFault → ℕ
ask_fault_number asks.Quiet = 1
ask_fault_number asks.Busy = 2
ask_fault_number asks.Full = 3
ask_fault_number asks.ClockBack = 4
ask_fault_number asks.BadName = 5

abbrev pub release_fault_number : ReleaseFault → ℕ
release_fault_number releases.NotHeld = 1
release_fault_number releases.ClockBack = 4

abbrev pub lookup_fault_number : LookupFault → ℕ
lookup_fault_number lookups.Busy = 2
lookup_fault_number lookups.ClockBack = 4
lookup_fault_number lookups.BadName = 5

abbrev pub ask_fault_word : AskFault → List ℕ
ask_fault_word asks.Quiet = codes "Quiet"
ask_fault_word asks.Busy = codes "Busy"
ask_fault_word asks.Full = codes "Full"
ask_fault_word asks.ClockBack = codes "ClockBack"
ask_fault_word asks.BadName = codes "BadName"

abbrev pub release_fault_word : ReleaseFault → List ℕ
release_fault_word releases.NotHeld = codes "NotHeld"
release_fault_word releases.ClockBack = codes "ClockBack"

abbrev pub lookup_fault_word : LookupFault → List ℕ
lookup_fault_word lookups.Busy = codes "Busy"
lookup_fault_word lookups.ClockBack = codes "ClockBack"
lookup_fault_word lookups.BadName = codes "BadName"
