use Rattle.std.proofs.Common.{◌≡◌, map, take, None}
use Rattle.nbt_world.proofs.ends.Ends.new.Given as goal

abbrev pub invariant-loop-addr : goal.invariant-loop-addr
invariant-loop-addr l = l.nodes.items ≡ map (λ a. record { addr = a; node = None }) (take l.addr-index l.others)
