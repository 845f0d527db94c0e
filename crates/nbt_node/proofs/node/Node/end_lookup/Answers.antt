use Rattle.std.proofs.Common.{refl}
use Rattle.nbt_packet.specs.Message.{message_of}
use Rattle.nbt_node.proofs.Moving.{unanswered, answered}
use Rattle.nbt_node.proofs.node.Node.end_lookup.Goals as goal

pub returns-then-not-ends : goal.returns-then-not-ends
returns-then-not-ends g c =
    unanswered c.args.self.now c.settle.new.self _ c.args.now c.args.from (message_of c.args.message.now) _ c.settle.ensures.node c.self.view_is c.if-not-ends.ensures

pub returns : goal.returns
returns g c =
    answered c.args.self.now c.settle.new.self _ _ c.args.now c.args.from (message_of c.args.message.now) _ c.settle.ensures.node c.self.view_is refl c.if-not-ends.ensures
