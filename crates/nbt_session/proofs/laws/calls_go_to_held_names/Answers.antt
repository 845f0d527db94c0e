use Rattle.nbt_session.proofs.Lines as lines
use Rattle.nbt_session.proofs.laws.calls_go_to_held_names.Goals as goal

pub returns : goal.returns
returns c = lines.lets_in_held
