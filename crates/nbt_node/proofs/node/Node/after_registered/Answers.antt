use Rattle.std.proofs.Common.{refl}
use Rattle.nbt_node.proofs.node.Node.after_registered.Goals as goal

pub returns : goal.returns
returns g c = rw c.state_at-state.ensures at (c.on_registered.ensures c.args.self.now c.args.now c.args.registration.now.name c.args.registration.now refl c.requires.granted)
