use Rattle.std.proofs.Common.{◌≡◌, Some, ap, subst, ◌∙◌}
use Rattle.nbt_node.specs.declared.state.Slot.{Slot}
use Rattle.nbt_node.specs.Node.{NodeValue}
use Rattle.nbt_node.specs.Calls.{slot_due}
use Rattle.nbt_node.specs.Inner.Sending.{IsSending}
use Rattle.nbt_node.proofs.Moving.{polls_sending}
use Rattle.nbt_node.proofs.node.Node.poll.Goals as goal

pub returns-in-Some-clause-ok : goal.returns-in-Some-clause-ok
returns-in-Some-clause-ok g c =
    let old : NodeValue = c.args.self.now in
    let kept : Slot = c.in-Some.ensures.sending.0 in
    let due : slot_due old c.args.now ≡ Some kept = subst (λ (n : NodeValue). slot_due n c.args.now ≡ Some kept) c.self.view_is c.in-Some.ensures.sending.1 in
    let sends : IsSending old.config.life c.args.now old.next_id kept.name kept.state c.in-Some.sending =
    subst (λ (n : NodeValue). IsSending n.config.life c.args.now n.next_id kept.name kept.state c.in-Some.sending) c.self.view_is c.in-Some.ensures.sending.2
    in
    let server_is : c.self-in-Some.inside.server ≡ old.server = ap (λ (n : NodeValue). n.server) (c.self-in-Some.view_is ∙ c.change.ensures.node) in
    rw server_is
    (polls_sending old c.change.new.self c.args.now kept c.in-Some.sending c.put.new.out.items c.change.ensures.apart due sends (rw (c.lend.ensures, c.set.ensures) at c.change.ensures.node) (rw (ap (λ (n : NodeValue). n.addr.ip) c.self.view_is) at c.put.ensures))
