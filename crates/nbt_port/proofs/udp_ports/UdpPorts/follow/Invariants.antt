use Rattle.std.proofs.Common.{◌≡◌}
use Rattle.nbt_port.proofs.udp_ports.UdpPorts.follow.Given as goal

abbrev pub invariant-loop-ip : goal.invariant-loop-ip
invariant-loop-ip g l = l.self ≡ l.fn.self
