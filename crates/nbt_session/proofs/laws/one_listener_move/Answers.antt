use Rattle.nbt_session.proofs.Lines as lines
use Rattle.nbt_session.proofs.laws.one_listener_move.Goals as goal

pub returns : goal.returns
returns c = lines.one_listener_move
