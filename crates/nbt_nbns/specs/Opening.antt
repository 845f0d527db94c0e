-- What a server reads at its start, where it keeps its leases (our profile).
use Rattle.std.specs.Prelude.{◌≡◌, ◌⊎◌, ℕ, Bool, false, List}
use Rattle.std.specs.Borrow.{Bor}
use Rattle.nbt_lease.specs.Config.{ConfigValue}
use Rattle.nbt_port.specs.declared.fault.Fault.{Fault}
use Rattle.nbt_port.specs.declared.fault.Fault.TheVariants.{Memory, Store}
use Rattle.nbt_store.specs.declared.silence.Seen.{Seen}
use Rattle.nbt_nbns.specs.declared.opening.Told.{Told}
use Rattle.nbt_store.specs.Beginning.{BeginsAs}
use Rattle.nbt_store.specs.Outlasting.{OutlastsAs}
use Rattle.nbt_store.specs.declared.beginning.Begun.{Begun}
use Rattle.nbt_store.specs.declared.resuming.Found.{Found}

-- what clocks told, in this boot
abbrev pub seen_in : Told → Bor (List ℕ) → Seen
seen_in told boot = record { boot = boot; before = told.before; day = told.time; monotonic = told.monotonic }

-- memory is out, or the folder failed
abbrev pub IsStoreFault : Fault → Type 0
IsStoreFault fault = (fault ≡ Memory) ⊎ (fault ≡ Store)

-- A server begins with what is found in the folder, by what clocks told, where no lease of it outlasts the silence of one that begins anew.
-- What is found no contract can say.
pub record IsFoundHere (config : ConfigValue) (told : Told) (silent_after_boot : Bool) (b : Begun) : Type 0 where
  pub found : Found
  pub config_is : found.config ≡ config
  pub seen_is : found.seen ≡ seen_in told found.seen.boot
  pub flag_is : found.silent_after_boot ≡ silent_after_boot
  pub none_outlasts : OutlastsAs found false
  pub begins : BeginsAs found b
