use Rattle.std.proofs.Common.{◌≡◌, Some, sym, ap, ◌∙◌}
use Rattle.nbt_packet.specs.Message.{MessageValue, message_of}
use Rattle.nbt_node.specs.declared.state.State.{State}
use Rattle.nbt_node.specs.declared.state.State.TheVariants.{Releasing}
use Rattle.nbt_node.specs.Node.{NodeValue, state_at}
use Rattle.nbt_node.specs.Calls.{held_kind}
use Rattle.nbt_node.specs.Moves.{Move, give_back, nothing}
use Rattle.nbt_node.proofs.Table.{held_given_back}
use Rattle.nbt_node.proofs.Moving.{name_moves}
use Rattle.nbt_node.proofs.node.Node.release.Goals as goal

pub returns-clause-ok : goal.returns-clause-ok
returns-clause-ok g c =
    let old : NodeValue = c.args.self.now in
    let releasing : State = Releasing c.in-Some.kind c.args.now c.open.result in
    let sent : MessageValue = message_of c.release-message.result in
    let held : held_kind (state_at old c.args.now c.args.name.now) ≡ Some c.in-Some.kind = ap held_kind (sym c.state_at.ensures) ∙ sym c.in-Some.ensures in
    let id_is : c.self.inside.next_id ≡ old.next_id = ap (λ (n : NodeValue). n.next_id) c.self.view_is in
    let own_is : c.self.inside.addr.ip ≡ old.addr.ip = ap (λ (n : NodeValue). n.addr.ip) c.self.view_is in
    let move : Move old c.args.now c.args.name.now (state_at old c.args.now c.args.name.now) give_back releasing (Some sent) nothing c.id_after.result =
    rw (c.release-message.ensures.value, c.open.ensures, c.id_after.ensures, id_is, own_is) (held_given_back old c.args.now c.args.name.now _ c.in-Some.kind held) in
    record {
      message = sent;
      moves = name_moves old c.change.new.self c.args.now c.args.name.now give_back (Some sent) nothing releasing c.id_after.result move c.change.ensures.node;
      written = c.write.ensures;
    }
