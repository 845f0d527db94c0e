use Rattle.nbt_c.proofs.datagram.nbt_datagram_read.Goals as goal

pub returns-clause-dgram : goal.returns-clause-dgram
returns-clause-dgram c = λ d count is. c.report.ensures.dgram d count ((c.decode.ensures.dgram d count).1 is)

pub returns-clause-fault : goal.returns-clause-fault
returns-clause-fault c = λ fault is. c.report.ensures.fault fault ((c.decode.ensures.fault fault).1 is)
