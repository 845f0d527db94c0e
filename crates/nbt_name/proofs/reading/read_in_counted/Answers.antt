use Rattle.nbt_name.proofs.Common.{Compressed}
use Rattle.nbt_name.proofs.Ends.{result_within}
use Rattle.nbt_name.proofs.Readers.{reads_stands, value_iff, fault_iff}
use Rattle.nbt_name.proofs.reading.read_in_counted.Goals as goal

pub returns-clause-name : goal.returns-clause-name
returns-clause-name g c name next = rw c.kept.ensures (value_iff (reads_stands Compressed c.args.octets.now c.args.place) c.find.result c.find.ensures.name c.find.ensures.fault (name, next))

pub returns-clause-fault : goal.returns-clause-fault
returns-clause-fault g c fault = rw c.kept.ensures (fault_iff (reads_stands Compressed c.args.octets.now c.args.place) c.find.result c.find.ensures.name c.find.ensures.fault fault)

pub returns-clause-within : goal.returns-clause-within
returns-clause-within g c = rw c.kept.ensures (result_within Compressed c.args.octets.now c.args.place c.find.result c.find.ensures.name)
