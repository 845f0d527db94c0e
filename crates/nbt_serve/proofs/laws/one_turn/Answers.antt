use Rattle.nbt_serve.proofs.OneServerTurn.{one_server_turn}
use Rattle.nbt_serve.proofs.laws.one_turn.Goals as goal

pub returns : goal.returns
returns c = one_server_turn c.one_reply.ensures
