use Rattle.std.proofs.Common.{subst}
use Rattle.std.proofs.lemmas.Result.{on_ok_weaker}
use Rattle.nbt_scan.specs.declared.progress.Step.{Step}
use Rattle.nbt_scan.specs.Inner.Steps.{Acted}
use Rattle.nbt_scan.specs.Scanning.{Scanning}
use Rattle.nbt_scan.proofs.Turns.{went_on}
use Rattle.nbt_scan.proofs.scanning.turn.Goals as goal

pub returns-clause-ok : goal.returns-clause-ok
returns-clause-ok g c =
    let first : Scanning g.row.P.Denot = record { port = c.args.port.now; scan = c.args.scan.now; sheet = record { kept = c.args.kept.now.items; text = g.W.Write.contents c.args.writer.now } } in
    let mid : Scanning g.row.P.Denot = record { port = c.act.new.port; scan = c.act.new.scan; sheet = record { kept = c.args.kept.now.items; text = g.W.Write.contents c.args.writer.now } } in
    let new : Scanning g.row.P.Denot = record { port = c.hear.new.port; scan = c.hear.new.scan; sheet = record { kept = c.hear.new.kept.items; text = g.W.Write.contents c.hear.new.writer } } in
    let acted = subst (λ (s : Step). Acted g.P.Port.does c.args.plan.now c.args.ids.now c.args.now s first mid) c.step_at-step.ensures.step (c.act.ensures.acts first.sheet) in
    on_ok_weaker c.hear.result (went_on g.P.Port.does c.args.plan.now c.args.ids.now c.args.layout c.args.now first mid new acted) c.hear.ensures.ok
