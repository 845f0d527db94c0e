use Rattle.std.proofs.Common.{take}
use Rattle.nbt_lease.proofs.Common.{HasNone}
use Rattle.nbt_lease.proofs.named.Named.place_of.Given as goal

abbrev pub invariant-loop-place : goal.invariant-loop-place
invariant-loop-place l = HasNone l.addr (take l.place l.self)
