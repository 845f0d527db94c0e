use Rattle.std.proofs.Common.{◌≡◌, ◌++◌, length}
use Rattle.std.specs.String.{string_bytes}
use Rattle.nbt_sim.specs.Escaping.{written}
use Rattle.nbt_sim.proofs.picture.escaping.write_escaped.Given as goal

-- what is written so far, and what of the rest, is what of all
abbrev pub invariant-octets : goal.invariant-octets
invariant-octets l = string_bytes l.out ++ written l.rest ≡ string_bytes l.fn.out ++ written l.fn.text

abbrev pub decreases-octets : goal.decreases-octets
decreases-octets l = length l.rest
