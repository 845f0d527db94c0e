use Rattle.nbt_name.proofs.reading.read_plain.Goals as goal

pub returns-clause-name : goal.returns-clause-name
returns-clause-name c name next = rw c.kept.ensures (c.find_plain.ensures.name name next)

pub returns-clause-fault : goal.returns-clause-fault
returns-clause-fault c fault = rw c.kept.ensures (c.find_plain.ensures.fault fault)
