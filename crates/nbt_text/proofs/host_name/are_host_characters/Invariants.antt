use Rattle.std.proofs.Common.{ℕ, ◌<◌}
use Rattle.std.specs.Prelude.{slice_index}
use Rattle.nbt_text.specs.HostNames.{IsHostCharacter}
use Rattle.nbt_text.proofs.host_name.are_host_characters.Given as goal

abbrev pub invariant-octets : goal.invariant-octets
invariant-octets l = (k : ℕ) → k < l.place → IsHostCharacter (slice_index l.octets k)
