use Rattle.std.proofs.Common.{◌≡◌, ◌≤◌, length}
use Rattle.nbt_scan.specs.Inner.Steps.{Passed}
use Rattle.nbt_scan.proofs.scanning.scan_all.Given as goal

abbrev pub invariant-loop : goal.invariant-loop
invariant-loop g l = record {
  passed : Passed g.P.Port.does g.C.Clock.tells l.plan l.ids l.layout l.counter
      (record { clock = l.fn.clock; here = record { port = l.fn.port; scan = l.fn.scan; sheet = record { kept = l.fn.kept.items; text = g.W.Write.contents l.fn.writer } } })
      (record { clock = l.clock; here = record { port = l.port; scan = l.scan; sheet = record { kept = l.kept.items; text = g.W.Write.contents l.writer } } });
  least : g.P.Port.failures l.fn.port ≤ g.P.Port.failures l.port;
  flags : length l.scan.replied ≡ length l.plan.ips.items;
}
