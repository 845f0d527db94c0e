use Rattle.std.proofs.Common.{refl, arith}
use Rattle.nbt_world.proofs.Places.{server_crashed, up_past, node_crashed}
use Rattle.nbt_world.proofs.ends.Ends.crash.Goals as goal

pub returns-then-number-eq0 : goal.returns-then-number-eq0
returns-then-number-eq0 c = rw (c.take.ensures.value, c.take.ensures.after) (server_crashed c.args.self.now c.args.number c.if-number-eq0.true c.if-is_none.ensures)

pub returns-then-number-len : goal.returns-then-number-len
returns-then-number-len c = (up_past c.args.self.now c.args.number (omega arith), refl)

pub returns : goal.returns
returns c =
    node_crashed c.args.self.now c.args.number c.deref_mut.result.now c.index-deref_mut-number.result c.crash_node.result c.crash_node.new.end
    (record { lent = c.deref_mut.ensures.value; is_node = c.if-number-eq0.false; within = omega arith; read = c.index-deref_mut-number.is })
    c.crash_node.ensures
