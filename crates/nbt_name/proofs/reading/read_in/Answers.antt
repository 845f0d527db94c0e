use Rattle.nbt_name.proofs.reading.read_in.Goals as goal

pub returns-clause-name : goal.returns-clause-name
returns-clause-name c name next = rw c.kept.ensures (c.find_in.ensures.name name next)

pub returns-clause-fault : goal.returns-clause-fault
returns-clause-fault c fault = rw c.kept.ensures (c.find_in.ensures.fault fault)
