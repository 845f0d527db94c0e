use Rattle.nbt_name.proofs.lent.find.Goals as goal

pub returns-clause-steps : goal.returns-clause-steps
returns-clause-steps g c stands = c.in_ok-sixteen.ensures.steps _ stands
