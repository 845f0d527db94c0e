use Rattle.std.proofs.Common.{arith, ◌∙◌}
use Rattle.std.proofs.lemmas.List.{get_or_read}
use Rattle.nbt_scan.proofs.Asking.{was_passed_over, was_asked}
use Rattle.nbt_scan.proofs.acting.ask.Goals as goal

pub returns-then-has-clause-acts : goal.returns-then-has-clause-acts
returns-then-has-clause-acts g c = λ sheet.
    was_passed_over g.P.Port.does c.args.plan.now c.args.ids.now c.args.now c.args.port.now c.args.scan.now sheet c.go_past.new.self c.has.result c.has.ensures c.if-has.true c.go_past.ensures

pub returns-clause-acts : goal.returns-clause-acts
returns-clause-acts g c = λ sheet.
    let did = c.send.ensures.does in
    was_asked g.P.Port.does c.args.plan.now c.args.ids.now c.args.now c.args.port.now c.args.scan.now sheet c.go_past-2.new.self c.send.new.self c.has.result c.index.result.now c.as_slice.result.now c.send.result c.has.ensures c.if-has.false (get_or_read c.args.plan.now.ips.items c.args.scan.now.progress.place c.index.result.now (omega (arith, c.requires.place)) c.index.ensures 0) (c.as_slice.ensures.value ∙ c.write_request.ensures) (rw c.to.ensures at did) c.go_past-2.ensures
