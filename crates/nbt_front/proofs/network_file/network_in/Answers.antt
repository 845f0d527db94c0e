use Rattle.nbt_front.specs.NetworkFiles.{no_network, spells_one}
use Rattle.nbt_front.proofs.network_file.network_in.Goals as goal

pub returns-in-Some-clause-ok : goal.returns-in-Some-clause-ok
returns-in-Some-clause-ok c = spells_one c.args.word.now c.in-Some.network c.in-Some.ensures.found

pub returns-in-None-clause-err : goal.returns-in-None-clause-err
returns-in-None-clause-err c = no_network c.args.word.now c.in-None.ensures.none
