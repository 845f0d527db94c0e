use Rattle.std.proofs.Common.{◌∙◌, [], refl, sym, arith}
use Rattle.nbt_scan.specs.Scanning.{Scanning, Timed}
use Rattle.nbt_scan.proofs.Turns.{passed_on, over_at_last, spent_at_last}
use Rattle.nbt_scan.proofs.scanning.scan_all.Goals as goal

pub loop-init : goal.loop-init
loop-init g c = record { passed = ([], refl, refl); least = omega arith; flags = c.requires.flags }

pub loop-preserved : goal.loop-preserved
loop-preserved g c =
    let old : Timed g.row.P.Denot g.row.C.Denot = record { clock = c.args.clock.now; here = record { port = c.args.port.now; scan = c.args.scan.now; sheet = record { kept = c.args.kept.now.items; text = g.W.Write.contents c.args.writer.now } } } in
    let mid : Scanning g.row.P.Denot = record { port = c.loop.port; scan = c.loop.scan; sheet = record { kept = c.loop.kept.items; text = g.W.Write.contents c.loop.writer } } in
    let new : Scanning g.row.P.Denot = record { port = c.turn.new.port; scan = c.turn.new.scan; sheet = record { kept = c.turn.new.kept.items; text = g.W.Write.contents c.turn.new.writer } } in
    record {
      passed = passed_on g.P.Port.does g.C.Clock.tells c.args.plan.now c.args.ids.now c.args.layout c.loop.counter old mid c.loop.clock c.now-now.new.self c.now-now.result c.loop.invariant.passed c.now-now.ensures new
          (sym c.is_over.ensures ∙ c.if-is_over.false) c.in_ok-turn.ensures.ok;
      least = omega (arith, c.in_ok-turn.ensures.least, c.loop.invariant.least);
      flags = c.in_ok-turn.ensures.flags ∙ c.loop.invariant.flags;
    }

pub returns-then-is_over-clause-ok : goal.returns-then-is_over-clause-ok
returns-then-is_over-clause-ok g c =
    let old : Timed g.row.P.Denot g.row.C.Denot = record { clock = c.args.clock.now; here = record { port = c.args.port.now; scan = c.args.scan.now; sheet = record { kept = c.args.kept.now.items; text = g.W.Write.contents c.args.writer.now } } } in
    let mid : Scanning g.row.P.Denot = record { port = c.loop.port; scan = c.loop.scan; sheet = record { kept = c.loop.kept.items; text = g.W.Write.contents c.loop.writer } } in
    over_at_last g.P.Port.does g.C.Clock.tells c.args.plan.now c.args.ids.now c.args.layout c.loop.counter old mid c.loop.clock c.now-now.new.self c.now-now.result c.loop.invariant.passed c.now-now.ensures
    (sym c.is_over.ensures ∙ c.if-is_over.true)

pub returns-clause-ok : goal.returns-clause-ok
returns-clause-ok g c =
    let old : Timed g.row.P.Denot g.row.C.Denot = record { clock = c.args.clock.now; here = record { port = c.args.port.now; scan = c.args.scan.now; sheet = record { kept = c.args.kept.now.items; text = g.W.Write.contents c.args.writer.now } } } in
    let new : Timed g.row.P.Denot g.row.C.Denot = record { clock = c.loop.clock; here = record { port = c.loop.port; scan = c.loop.scan; sheet = record { kept = c.loop.kept.items; text = g.W.Write.contents c.loop.writer } } } in
    spent_at_last g.P.Port.does g.C.Clock.tells c.args.plan.now c.args.ids.now c.args.layout c.loop.counter old new
    c.loop.invariant.passed (omega (arith, c.loop-test.false, c.loop.auto.counter-end))
