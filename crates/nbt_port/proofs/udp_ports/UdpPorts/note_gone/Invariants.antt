use Rattle.std.proofs.Common.{◌≡◌}
use Rattle.nbt_port.proofs.udp_ports.UdpPorts.note_gone.Given as goal

abbrev pub invariant-loop-place : goal.invariant-loop-place
invariant-loop-place g l = l.self ≡ l.fn.self
