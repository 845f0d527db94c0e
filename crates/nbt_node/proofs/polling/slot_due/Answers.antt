use Rattle.nbt_node.proofs.Due.{due_slot}
use Rattle.nbt_node.proofs.polling.slot_due.Goals as goal

pub returns-in-Some-clause-sending : goal.returns-in-Some-clause-sending
returns-in-Some-clause-sending c =
    rw c.in-Some.is (due_slot c.args.config.life c.args.now c.args.id c.in-Some.kept c.settled.result c.polled.result c.settled.ensures c.polled.ensures.due (rw c.lend.ensures at c.polled.ensures.sending))
