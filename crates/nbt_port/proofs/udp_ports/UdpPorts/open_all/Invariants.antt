use Rattle.std.proofs.Common.{◌≡◌}
use Rattle.nbt_port.proofs.udp_ports.UdpPorts.open_all.Given as goal

abbrev pub invariant-loop-addr : goal.invariant-loop-addr
invariant-loop-addr g l = (l.self-inside.bind.now ≡ l.fn.self.bind) × (l.self-inside.failures ≡ l.fn.self.failures)
