use Rattle.std.proofs.Common.{[], sym, subst, ⊎_elim}
use Rattle.nbt_scan.specs.declared.progress.Step.{Step}
use Rattle.nbt_scan.specs.Inner.Steps.{Acted}
use Rattle.nbt_scan.specs.Scanning.{Scanning, waits, is_done}
use Rattle.nbt_scan.proofs.Asking.{began_again}
use Rattle.nbt_scan.proofs.acting.act.Goals as goal

pub returns-in-Ask-clause-acts : goal.returns-in-Ask-clause-acts
returns-in-Ask-clause-acts g c = λ sheet.
    let old : Scanning g.row.P.Denot = record { port = c.args.port.now; scan = c.args.scan.now; sheet = sheet } in
    let new : Scanning g.row.P.Denot = record { port = c.ask.new.port; scan = c.ask.new.scan; sheet = sheet } in
    subst (λ (s : Step). Acted g.P.Port.does c.args.plan.now c.args.ids.now c.args.now s old new) (sym c.in-Ask.is) (c.ask.ensures.acts sheet)

pub returns-in-Again-clause-acts : goal.returns-in-Again-clause-acts
returns-in-Again-clause-acts g c = λ sheet.
    rw c.in-Again.is (began_again g.P.Port.does c.args.plan.now c.args.ids.now c.args.now c.args.port.now c.args.scan.now sheet c.go_again.new.self c.go_again.ensures)

pub returns-in-Wait-clause-acts : goal.returns-in-Wait-clause-acts
returns-in-Wait-clause-acts g c = λ sheet. ⊎_elim (λ e. rw e ([], waits)) (λ e. rw e ([], is_done)) c.in-Wait.is
