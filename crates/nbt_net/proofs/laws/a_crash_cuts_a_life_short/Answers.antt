use Rattle.nbt_net.proofs.ServerTurns.{crash_cuts}
use Rattle.nbt_net.proofs.laws.a_crash_cuts_a_life_short.Goals as goal

pub returns : goal.returns
returns c = crash_cuts c.a_crash_leaves_an_earlier_server.ensures
