use Rattle.nbt_node.proofs.node.Node.take_released.Goals as goal

pub returns : goal.returns
returns g c = λ kind addr. c.hear.ensures _ (c.after_released-outcome.ensures kind addr)
