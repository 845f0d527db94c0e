use Rattle.std.proofs.Common.{ap, sym, ◌∙◌}
use Rattle.nbt_confirm.specs.declared.request.Came.{Came}
use Rattle.nbt_waits.specs.Looking.{aside}
use Rattle.nbt_asking.specs.Attending.{at_claim, at_response, nothing_there}
use Rattle.nbt_asking.specs.Port.{AskingPortValue}
use Rattle.nbt_asking.proofs.Looking.{looked_is}
use Rattle.nbt_asking.proofs.port.AskingPort.look_aside.Goals as goal

pub returns-then-not-is_there : goal.returns-then-not-is_there
returns-then-not-is_there g c = rw (← c.self.view_is) (nothing_there (λ there. let yes = c.is_there.ensures.1 there in let never = c.if-not-is_there.true in absurd cc))

pub returns-then-is_request : goal.returns-then-is_request
returns-then-is_request g c =
    let looked = looked_is c.self.inside.desk.aside (c.is_there.ensures.0 c.if-not-is_there.false) in
    let same = c.came-came.ensures looked.0 looked.1 looked.2 in
    let was = sym (ap (λ (v : AskingPortValue g.row.P.Denot g.row.I.Denot). v.desk.aside) c.self.view_is) ∙ (looked.2 ∙ ap (λ (w : Came). aside w looked.1) (sym same)) in
    at_claim c.came-came.result looked.1 c.look_at_claim.new.self was (c.is_request.ensures.0 c.if-is_request.true) (c.look_at_claim.ensures looked.1 was)

pub returns-else-is_request : goal.returns-else-is_request
returns-else-is_request g c =
    let looked = looked_is c.self.inside.desk.aside (c.is_there.ensures.0 c.if-not-is_there.false) in
    let same = c.came-came.ensures looked.0 looked.1 looked.2 in
    let was = sym (ap (λ (v : AskingPortValue g.row.P.Denot g.row.I.Denot). v.desk.aside) c.self.view_is) ∙ (looked.2 ∙ ap (λ (w : Came). aside w looked.1) (sym same)) in
    at_response c.came-came.result looked.1 c.look_at_response.new.self was (λ request. let yes = c.is_request.ensures.1 request in let never = c.if-is_request.false in absurd cc)
    (c.look_at_response.ensures looked.1 was)
