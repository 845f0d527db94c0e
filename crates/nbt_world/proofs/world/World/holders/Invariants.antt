use Rattle.nbt_world.proofs.Holding.{AreHolders}
use Rattle.nbt_world.proofs.world.World.holders.Given as goal

abbrev pub invariant-loop-index : goal.invariant-loop-index
invariant-loop-index l = AreHolders l.nodes l.name l.self.now l.index l.holders.items
