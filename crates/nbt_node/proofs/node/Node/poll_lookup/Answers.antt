use Rattle.std.proofs.Common.{refl, ◌∙◌}
use Rattle.nbt_node.proofs.Moving.{polled_lookup}
use Rattle.nbt_node.proofs.node.Node.poll_lookup.Goals as goal

pub returns : goal.returns
returns g c =
    polled_lookup c.args.self.now _ _ c.args.now c.self.inside.lookup c.poll.new.lookup c.poll.result c.poll.new.out.items (c.self.view_is ∙ c.settle.ensures.node) refl refl c.requires.slot
    c.poll.ensures
