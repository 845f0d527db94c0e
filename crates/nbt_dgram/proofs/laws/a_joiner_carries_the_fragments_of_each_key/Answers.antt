use Rattle.nbt_dgram.proofs.History.{carried, idle, told}
use Rattle.nbt_dgram.proofs.OneLeft.{one_unfinished}
use Rattle.nbt_dgram.proofs.laws.a_joiner_carries_the_fragments_of_each_key.Goals as goal

pub returns-clause-carried : goal.returns-clause-carried
returns-clause-carried c = λ count puts j place s run there. carried count puts j place s run there

pub returns-clause-nothing : goal.returns-clause-nothing
returns-clause-nothing c = λ count puts j key run no. idle count puts j key run no

pub returns-clause-told : goal.returns-clause-told
returns-clause-told c = λ count puts now d f outcome old new run later body cut does. told count puts now d f outcome old new run later body cut does

pub returns-clause-one : goal.returns-clause-one
returns-clause-one c = λ key puts now u v x y. one_unfinished key puts now u v x y
