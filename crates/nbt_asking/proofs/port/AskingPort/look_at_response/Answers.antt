use Rattle.std.proofs.Common.{ap, ◌∙◌}
use Rattle.nbt_asking.specs.Attending.{answers, answers_none}
use Rattle.nbt_asking.specs.Port.{AskingPortValue}
use Rattle.nbt_asking.proofs.Looking.{same_requests}
use Rattle.nbt_asking.proofs.port.AskingPort.look_at_response.Goals as goal

pub returns-in-Some : goal.returns-in-Some
returns-in-Some g c = λ octets is.
    let was = ap (λ (v : AskingPortValue g.row.P.Denot g.row.I.Denot). v.desk.aside) c.self.view_is ∙ is in
    let hears = rw (c.octets.ensures c.args.came octets was) at c.in-Some.ensures.pending in
    let served = rw (c.let_go.ensures, same_requests c.self.inside.desk.asking.waits c.hear-machine.new.self c.hear-machine.ensures.requests) at c.serve.ensures in
    rw (← c.self.view_is) (answers c.in-Some.machine c.hear-machine.new.self.pending c.serve.new.self hears served)

pub returns-in_default : goal.returns-in_default
returns-in_default g c = λ octets is.
    let was = ap (λ (v : AskingPortValue g.row.P.Denot g.row.I.Denot). v.desk.aside) c.self.view_is ∙ is in
    let hears = rw (c.octets.ensures c.args.came octets was) at c.in_default.ensures.pending in
    rw (← c.self.view_is, c.let_go.ensures, same_requests c.self.inside.desk.asking.waits c.hear-machine.new.self c.hear-machine.ensures.requests) (answers_none c.hear-machine.new.self.pending hears)
