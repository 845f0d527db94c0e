use Rattle.std.proofs.Common.{◌≤◌, refl, sym, subst}
use Rattle.nbt_node.specs.Node.{NodeValue}
use Rattle.nbt_node.proofs.Moving.{settles}
use Rattle.nbt_node.proofs.node.Node.settle.Goals as goal

pub invariant_of-self : goal.invariant_of-self
invariant_of-self g c = settles _ _ g.row.N c.self.inside.config.life c.args.now c.self.inside.slots c.settle-2.new.slots c.self.invariant refl refl c.settle-2.ensures refl refl
    (subst (λ (n : NodeValue). n.last ≤ c.args.now) (sym c.self.view_is) c.requires)
