use Rattle.nbt_name.proofs.Common.{Compressed}
use Rattle.nbt_name.proofs.Ends.{result_within}
use Rattle.nbt_name.proofs.Readers.{reads_stands, value_iff, fault_iff}
use Rattle.nbt_name.proofs.lent.find_in.Goals as goal

pub returns : goal.returns
returns c = record {
  name = λ name next. value_iff (reads_stands Compressed c.args.octets.now c.args.place) c.find_uncounted.result c.find_uncounted.ensures.name c.find_uncounted.ensures.fault (name, next);
  fault = fault_iff (reads_stands Compressed c.args.octets.now c.args.place) c.find_uncounted.result c.find_uncounted.ensures.name c.find_uncounted.ensures.fault;
  within = result_within Compressed c.args.octets.now c.args.place c.find_uncounted.result c.find_uncounted.ensures.name;
}
