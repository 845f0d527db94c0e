use Rattle.std.proofs.Common.{refl}
use Rattle.nbt_packet.specs.Message.{wait}
use Rattle.nbt_node.proofs.Table.{stays}
use Rattle.nbt_node.proofs.replies.on_wait.Goals as goal

pub returns-in-None : goal.returns-in-None
returns-in-None c = λ node name n.
    stays node c.args.now name c.args.state.now c.unmoved.result.state (wait c.args.id n c.args.ttl) _ c.unmoved.ensures.state c.unmoved.ensures.told (c.in-None.ensures.unmoved refl n c.args.ttl)
