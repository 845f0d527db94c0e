use Rattle.nbt_c.proofs.wire.nbt_name_in_packet.Goals as goal

pub returns-clause-name : goal.returns-clause-name
returns-clause-name c = λ name end _ stands. c.report.ensures.name name end ((c.read_in.ensures.name name end).1 stands)

pub returns-clause-fault : goal.returns-clause-fault
returns-clause-fault c = λ fault _ stands. c.report.ensures.fault fault ((c.read_in.ensures.fault fault).1 stands)
