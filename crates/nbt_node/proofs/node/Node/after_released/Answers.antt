use Rattle.nbt_node.proofs.node.Node.after_released.Goals as goal

pub returns : goal.returns
returns g c = λ kind addr.
    rw c.state_at-state.ensures at (c.on_released.ensures c.args.self.now c.args.now c.args.name.now c.args.name.now kind addr)
