use Rattle.std.proofs.Common.{ℕ, ◌<◌, ◌≤◌, ◌-◌, length}
use Rattle.std.specs.Prelude.{slice_index}
use Rattle.nbt_log.specs.Hosts.{IsSpace}
use Rattle.nbt_log.proofs.hosts.before_space.Given as goal

abbrev pub invariant-octets : goal.invariant-octets
invariant-octets l = record { within : l.count ≤ length l.octets; none : (k : ℕ) → k < l.count → ¬ IsSpace (slice_index l.octets k) }

abbrev pub decreases-octets : goal.decreases-octets
decreases-octets l = length l.octets - l.count
