use Rattle.std.proofs.Common.{◌∙◌}
use Rattle.nbt_sim.proofs.Places.{filled}
use Rattle.nbt_sim.proofs.script_world.entries_of.Goals as goal

pub returns : goal.returns
returns c = filled _ c.args.moves.now.items _ (c.copy_from_slice.ensures.after ∙ c.as_slice.ensures.value) c.len.ensures.value
