use Rattle.std.proofs.Common.{Some, refl, ap, ◌∙◌, arith}
use Rattle.nbt_world.specs.World.{node_of}
use Rattle.nbt_world.proofs.Places.{Reads, node_read, none_past, written_node, written_same}
use Rattle.nbt_world.proofs.ends.Ends.node_event.Goals as goal
use Rattle.nbt_world.proofs.ends.Ends.node_event.Goals.{then-number-eq0-via-then-number-eq0, then-number-eq0-via-else-number-eq0+then-number-len}

pub returns-in-Some-clause-does : goal.returns-in-Some-clause-does
returns-in-Some-clause-does c =
    let reads : Reads c.args.self.now c.args.number c.deref_mut.result.now c.index-deref_mut-number.result =
    record { lent = c.deref_mut.ensures.value; is_node = c.if-number-eq0.false; within = omega arith; read = c.index-deref_mut-number.is } in (
      c.in-Some.node,
      c.call_node-given.new.node,
      node_read reads ∙ c.in-Some.is,
      c.call_node-given.ensures,
      written_node (Some c.call_node-given.new.node) reads,
      c.addr.ensures,
    )

pub returns-in-None-clause-down : goal.returns-in-None-clause-down
returns-in-None-clause-down c = λ e.
    let reads : Reads c.args.self.now c.args.number c.deref_mut.result.now c.index-deref_mut-number.result =
    record { lent = c.deref_mut.ensures.value; is_node = c.if-number-eq0.false; within = omega arith; read = c.index-deref_mut-number.is } in
    (node_read reads ∙ c.in-None.is, written_same reads)

pub call_node-given-requires-clause-server : goal.call_node-given-requires-clause-server
call_node-given-requires-clause-server c =
    let reads : Reads c.args.self.now c.args.number c.deref_mut.result.now c.index-deref_mut-number.result =
    record { lent = c.deref_mut.ensures.value; is_node = c.if-number-eq0.false; within = omega arith; read = c.index-deref_mut-number.is } in
    c.requires.server _ (node_read reads ∙ c.in-Some.is)

pub call_node-given-requires-clause-time : goal.call_node-given-requires-clause-time
call_node-given-requires-clause-time c =
    let reads : Reads c.args.self.now c.args.number c.deref_mut.result.now c.index-deref_mut-number.result =
    record { lent = c.deref_mut.ensures.value; is_node = c.if-number-eq0.false; within = omega arith; read = c.index-deref_mut-number.is } in
    c.requires.time _ (node_read reads ∙ c.in-Some.is)

pub returns-then-number-eq0-clause-down : goal.returns-then-number-eq0-clause-down
returns-then-number-eq0-clause-down c = λ none. (
  elim c.then-number-eq0.branch [
    | then-number-eq0-via-then-number-eq0 w ↦ ap (node_of c.args.self.now) w.if-number-eq0.true
    | then-number-eq0-via-else-number-eq0+then-number-len w ↦ (none_past c.args.self.now c.args.number (omega arith)).1
  ],
  refl,
)
