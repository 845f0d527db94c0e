use Rattle.std.proofs.Common.{length, refl, ◌∙◌, ap, arith}
use Rattle.nbt_world.specs.Step.{is_down, takes}
use Rattle.nbt_world.proofs.Places.{Reads, node_read, within_from, server_took, server_is_down, node_took, node_is_down}
use Rattle.nbt_world.proofs.ends.Ends.take.Goals as goal

pub serve-requires : goal.serve-requires
serve-requires c = c.requires.server _ c.if-number-eq0.true c.in-Some.is

pub returns-in-Some : goal.returns-in-Some
returns-in-Some c = (c.serve.ensures.0, server_took c.if-number-eq0.true c.in-Some.is c.serve.ensures.1, c.serve.ensures.2)

pub returns-in-None : goal.returns-in-None
returns-in-None c = (is_down, server_is_down c.if-number-eq0.true c.in-None.is, refl)

pub offset_bounds-deref_mut-number : goal.offset_bounds-deref_mut-number
offset_bounds-deref_mut-number c =
    let within = within_from c.args.self.now c.args.number c.requires.there c.if-number-eq0.false in
    let few = c.deref_mut.ensures.fits in
    omega (arith, ap length c.deref_mut.ensures.value)

pub bounds-deref_mut-number : goal.bounds-deref_mut-number
bounds-deref_mut-number c =
    let within = within_from c.args.self.now c.args.number c.requires.there c.if-number-eq0.false in
    let some = c.if-number-eq0.false in
    omega (arith, ap length c.deref_mut.ensures.value)

pub hear-requires : goal.hear-requires
hear-requires c =
    let reads : Reads c.args.self.now c.args.number c.deref_mut.result.now c.index-deref_mut-number.result =
    record { lent = c.deref_mut.ensures.value; is_node = c.if-number-eq0.false; within = within_from c.args.self.now c.args.number c.requires.there c.if-number-eq0.false; read = c.index-deref_mut-number.is } in
    c.requires.node _ (node_read reads ∙ c.in-Some-node.is)

pub returns-in-Some-node : goal.returns-in-Some-node
returns-in-Some-node c =
    let reads : Reads c.args.self.now c.args.number c.deref_mut.result.now c.index-deref_mut-number.result =
    record { lent = c.deref_mut.ensures.value; is_node = c.if-number-eq0.false; within = within_from c.args.self.now c.args.number c.requires.there c.if-number-eq0.false; read = c.index-deref_mut-number.is } in
    (takes c.hear.ensures.0, node_took reads c.in-Some-node.is c.hear.ensures.1, c.hear.ensures.2)

pub returns-in-None-node : goal.returns-in-None-node
returns-in-None-node c =
    let reads : Reads c.args.self.now c.args.number c.deref_mut.result.now c.index-deref_mut-number.result =
    record { lent = c.deref_mut.ensures.value; is_node = c.if-number-eq0.false; within = within_from c.args.self.now c.args.number c.requires.there c.if-number-eq0.false; read = c.index-deref_mut-number.is } in
    (is_down, node_is_down reads c.in-None-node.is, refl)
