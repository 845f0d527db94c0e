use Rattle.std.proofs.Common.{◌≡◌, map, Some}
use lib.Seq.{paste}
use Rattle.nbt_dgram.proofs.known.write.Given as goal

-- as far as the loop has come
abbrev pub invariant-loop-k : goal.invariant-loop-k
invariant-loop-k l = l.known ≡ paste l.initial.known l.begin (map Some l.payload) l.k
