use Rattle.nbt_node.proofs.Shifting.{starts_alike, settled_node_shifted, move_shifted, tells_alike, does_alike}
use Rattle.nbt_node.proofs.laws.a_shifted_node_does_the_same.Goals as goal

pub returns-clause-start : goal.returns-clause-start
returns-clause-start c = starts_alike

pub returns-clause-settling : goal.returns-clause-settling
returns-clause-settling c = settled_node_shifted

pub returns-clause-moves : goal.returns-clause-moves
returns-clause-moves c = λ more node now name before event after sent told next_id move. move_shifted more now node name before event after sent told next_id move

pub returns-clause-telling : goal.returns-clause-telling
returns-clause-telling c = tells_alike

pub returns-clause-doing : goal.returns-clause-doing
returns-clause-doing c = does_alike
