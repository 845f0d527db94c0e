use Rattle.std.proofs.Common.{refl, sym, arith}
use Rattle.nbt_world.proofs.Places.{server_started, down_past, node_started}
use Rattle.nbt_world.proofs.ends.Ends.start.Goals as goal

pub returns-then-number-eq0 : goal.returns-then-number-eq0
returns-then-number-eq0 c =
    server_started c.if-number-eq0.true (sym c.if-is_some.ensures) c.start.ensures

pub returns-then-number-len : goal.returns-then-number-len
returns-then-number-len c = (down_past c.args.self.now c.args.number (omega arith), refl)

pub returns : goal.returns
returns c =
    node_started c.args.config c.args.now c.args.self.now c.args.number c.deref_mut.result.now c.index-deref_mut-number.result c.start_node.result c.start_node.new.end
    (record { lent = c.deref_mut.ensures.value; is_node = c.if-number-eq0.false; within = omega arith; read = c.index-deref_mut-number.is })
    c.start_node.ensures
