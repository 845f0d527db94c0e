-- Why a file of networks isn't read (private functions alone).
use Rattle.std.specs.Prelude.{ℕ}
use Rattle.nbt_front.specs.declared.network_file.NetworkFault.{NetworkFault}
use Rattle.nbt_front.specs.declared.network_file.NetworksFault.{NetworksFault}
use Rattle.nbt_front.specs.declared.network_file.NetworksFault.TheVariants as file
use Rattle.nbt_front.specs.declared.network_file.NotNamed.{NotNamed}
use Rattle.nbt_front.specs.declared.network_file.NotNamed.TheVariants.{Line, Memory}

-- this is what a line isn't taken for; memory may be out at any step
abbrev pub IsRefusedFor : (NetworkFault → Type 0) → NotNamed → Type 0
IsRefusedFor FailsBy (Line fault) = FailsBy fault
IsRefusedFor FailsBy Memory = Unit {0}

abbrev pub fault_at : (number : ℕ) → NotNamed → NetworksFault
fault_at number (Line fault) = file.Line number fault
fault_at number Memory = file.Memory
