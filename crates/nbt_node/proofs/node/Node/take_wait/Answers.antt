use Rattle.nbt_node.proofs.node.Node.take_wait.Goals as goal

pub returns : goal.returns
returns g c = c.hear.ensures _ c.after_wait-outcome.ensures
