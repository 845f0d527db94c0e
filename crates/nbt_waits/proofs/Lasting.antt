-- How long the first lease of a name lasts.
use Rattle.std.proofs.Common.{◌≡◌, ◌+◌, ◌≤◌, ℕ, List, [], ◌∷◌, arith}
use Rattle.std.specs.Prelude.{Option, IfSome}
use Rattle.nbt_lease.specs.Config.{ConfigValue, milliseconds}
use Rattle.nbt_lease.specs.Lease.{AreSound, latest_end}
use Rattle.nbt_lease.specs.declared.lease.Lease.{Lease}
use Rattle.nbt_waits.specs.Asking.{first_of}

pub ends_in_time : (config : ConfigValue) (now most : ℕ) (leases : List Lease) (found : Option Lease) → found ≡ first_of leases → AreSound (latest_end config now) leases → config.longest ≤ most
    → IfSome found (λ lease. lease.end ≤ now + milliseconds most)
ends_in_time config now most [] found is sound few = rw is tt
ends_in_time config now most (lease ∷ leases) found is sound few = rw is (let soon = sound.in_time.0 in omega (arith, soon))
