use Rattle.nbt_front.proofs.network.ip_in.Goals as goal

pub returns-in-Err-clause-none : goal.returns-in-Err-clause-none
returns-in-Err-clause-none c = λ ip spells. c.in-Err.ensures spells.0 spells.1
