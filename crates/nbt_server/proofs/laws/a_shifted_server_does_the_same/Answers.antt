use Rattle.nbt_server.proofs.Shifting.{starts_alike, tells_alike, does_alike}
use Rattle.nbt_server.proofs.laws.a_shifted_server_does_the_same.Goals as goal

pub returns-clause-start : goal.returns-clause-start
returns-clause-start c = starts_alike

pub returns-clause-telling : goal.returns-clause-telling
returns-clause-telling c = tells_alike

pub returns-clause-doing : goal.returns-clause-doing
returns-clause-doing c = does_alike
