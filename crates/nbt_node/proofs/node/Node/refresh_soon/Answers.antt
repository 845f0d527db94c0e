use Rattle.std.proofs.Common.{refl}
use Rattle.nbt_node.proofs.Moving.{puts}
use Rattle.nbt_node.proofs.node.Node.refresh_soon.Goals as goal

pub invariant_of-self : goal.invariant_of-self
invariant_of-self g c =
    puts _ _ g.row.N c.self.inside.slots c.change.new.slots c.args.name.now c.due_soon.result c.self.invariant refl refl c.change.ensures refl refl
