use Rattle.std.proofs.Common.{ℕ, ◌<◌}
use Rattle.std.specs.Prelude.{slice_index}
use Rattle.nbt_text.specs.HostNames.{IsLetter}
use Rattle.nbt_text.proofs.unit.are_letters.Given as goal

abbrev pub invariant-octets : goal.invariant-octets
invariant-octets l = (k : ℕ) → k < l.place → IsLetter (slice_index l.octets k)
