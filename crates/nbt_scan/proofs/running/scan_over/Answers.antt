use Rattle.std.proofs.Common.{[]}
use Rattle.nbt_scan.specs.Running.{first_scan}
use Rattle.nbt_scan.specs.Scanning.{Timed}
use Rattle.nbt_scan.proofs.Turns.{scans_so}
use Rattle.nbt_scan.proofs.running.scan_over.Goals as goal

pub returns-clause-ok : goal.returns-clause-ok
returns-clause-ok g c =
    let new : Timed g.row.P.Denot g.row.C.Denot = record { clock = c.scan_all.new.clock; here = record { port = c.scan_all.new.port; scan = c.scan_all.new.scan; sheet = record { kept = c.scan_all.new.kept.items; text = g.W.Write.contents c.scan_all.new.writer } } } in
    record {
      now = c.now-now.result;
      read = c.now-now.new.self;
      scan = c.scan_all.new.scan;
      kept = c.scan_all.new.kept.items;
      told_text = g.W.Write.contents c.scan_all.new.writer;
      lines = c.in_ok-print_kept.ensures.ok.0;
      told = c.now-now.ensures;
      scans = scans_so g.P.Port.does g.C.Clock.tells c.args.plan.now c.args.ids.now c.args.layout c.now-now.new.self c.args.port.now (g.W.Write.contents c.args.writer.now) new c.in_ok-scan.scan (first_scan c.args.plan.now c.now-now.result) c.new-kept.result.items [] c.in_ok-scan.ensures c.new-kept.ensures.items
          c.in_ok-scan_all.ensures.ok;
      lines_are = c.in_ok-print_kept.ensures.ok.1;
      printed = c.in_ok-print_kept.ensures.ok.2;
      any_is = c.is_any-any.ensures;
    }
