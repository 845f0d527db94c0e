use Rattle.std.proofs.Common.{◌≡◌, map, take, Some}
use Rattle.nbt_dgram.proofs.known.read.Given as goal

abbrev pub invariant-loop-octet : goal.invariant-loop-octet
invariant-loop-octet l = take l.octet-index l.octet-items ≡ map Some l.out.items
