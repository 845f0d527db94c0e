use Rattle.nbt_packet.specs.Message.{released}
use Rattle.nbt_node.specs.Moves.{freed}
use Rattle.nbt_node.proofs.Table.{stays, not_releasing, differs}
use Rattle.nbt_node.proofs.replies.on_released.Goals as goal

pub returns-in_default : goal.returns-in_default
returns-in_default c = λ node now name n k a.
    stays node now name c.args.state.now _ (released c.args.id c.args.rcode n k a) _ c.unmoved.ensures.state c.unmoved.ensures.told (not_releasing c.args.state.now c.args.id c.args.rcode n k a c.in_default.not-Releasing)

pub returns-then-pending-id : goal.returns-then-pending-id
returns-then-pending-id c = λ node now name n k a.
    stays node now name c.args.state.now _ (released c.args.id c.args.rcode n k a) _ c.unmoved-then-pending-id.ensures.state c.unmoved-then-pending-id.ensures.told
    (rw c.in-Releasing.is (differs c.args.id c.in-Releasing.pending.id c.if-pending-id.true))

pub returns : goal.returns
returns c = λ node now name n k a.
    rw (c.rests.ensures.state, c.rests.ensures.told, c.in-Releasing.is, ← c.if-pending-id.false) (freed c.in-Releasing.kind c.in-Releasing.last c.args.rcode c.in-Releasing.pending n k a)
