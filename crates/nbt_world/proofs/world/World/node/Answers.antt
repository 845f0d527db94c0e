use Rattle.std.proofs.Common.{◌≡◌, length, Option, Some, None, Bor, refl, sym, ap, ◌∙◌, arith}
use Rattle.std.specs.Option.{option_map, option_copied}
use Rattle.nbt_world.specs.declared.ends.NodeEnd.{NodeEnd}
use Rattle.nbt_world.proofs.Places.{Reads, node_read}
use Rattle.nbt_world.proofs.world.World.node.Goals as goal

copied : {T : Type 0} (o : Option (Bor T)) → option_map (λ x. x.now) o ≡ option_copied o
copied None = refl
copied (Some x) = refl

pub returns-in-Some : goal.returns-in-Some
returns-in-Some c =
    let found = c.in-Some.ensures.lookup in
    let lt = found.3.0 in
    let reads : Reads c.self.inside.ends c.args.number c.as_slice.result.now c.in-Some.end.now =
    record { lent = c.as_slice.ensures.value; is_node = c.if-number-eq0.false; within = omega (arith, ap length c.as_slice.ensures.value); read = found.1 } in
    rw (← c.self.view_is) (copied c.as_ref.result ∙ c.as_ref.ensures.value ∙ ap (λ (e : NodeEnd). e.node) found.1 ∙ sym (node_read reads))
