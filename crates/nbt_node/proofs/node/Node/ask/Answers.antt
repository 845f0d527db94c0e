use Rattle.std.proofs.Common.{◌≡◌, Some, ap}
use Rattle.nbt_packet.specs.Message.{MessageValue, registration}
use Rattle.nbt_node.specs.declared.state.State.{State}
use Rattle.nbt_node.specs.declared.state.State.TheVariants.{Asking}
use Rattle.nbt_node.specs.Node.{NodeValue, state_at}
use Rattle.nbt_node.specs.Moves.{Move, ask, nothing, asks}
use Rattle.nbt_node.proofs.Moving.{may_ask, name_moves, MayAsk}
use Rattle.nbt_node.proofs.node.Node.ask.Goals as goal

pub returns-clause-ok : goal.returns-clause-ok
returns-clause-ok g c =
    let old : NodeValue = c.args.self.now in
    let asking : State = Asking c.args.kind c.args.ttl c.args.now c.open.result in
    let sent : MessageValue = registration c.claim.result in
    let may : MayAsk old c.args.now c.args.name.now = may_ask old c.args.now c.args.name.now c.in-None.ensures.fault in
    let id_is : c.self.inside.next_id ≡ old.next_id = ap (λ (n : NodeValue). n.next_id) c.self.view_is in
    let own_is : c.self.inside.addr.ip ≡ old.addr.ip = ap (λ (n : NodeValue). n.addr.ip) c.self.view_is in
    let move : Move old c.args.now c.args.name.now (state_at old c.args.now c.args.name.now) (ask c.args.kind c.args.ttl) asking (Some sent) nothing c.id_after.result =
    rw (may.idle, c.claim.ensures.value, c.open.ensures, c.id_after.ensures, id_is, own_is) (asks c.args.kind c.args.ttl may.rested) in
    record {
      message = sent;
      moves = name_moves old c.change.new.self c.args.now c.args.name.now (ask c.args.kind c.args.ttl) (Some sent) nothing asking c.id_after.result move c.change.ensures.node;
      written = c.write.ensures;
    }
