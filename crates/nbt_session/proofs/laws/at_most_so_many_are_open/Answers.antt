use Rattle.nbt_session.proofs.Lines as lines
use Rattle.nbt_session.proofs.laws.at_most_so_many_are_open.Goals as goal

pub returns : goal.returns
returns c = lines.most_are_open
