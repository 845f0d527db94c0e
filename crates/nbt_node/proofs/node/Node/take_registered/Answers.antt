use Rattle.nbt_node.proofs.node.Node.take_registered.Goals as goal

pub returns : goal.returns
returns g c = c.hear.ensures _ c.after_registered-outcome.ensures
