use Rattle.nbt_node.proofs.node.Node.after_wait.Goals as goal

pub returns : goal.returns
returns g c = rw c.state_at-state.ensures at (c.on_wait.ensures c.args.self.now c.args.name.now c.args.name.now)
