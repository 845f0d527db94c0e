use Rattle.nbt_name.proofs.Common.{Plain}
use Rattle.nbt_name.proofs.Ends.{result_within}
use Rattle.nbt_name.proofs.Readers.{reads_stands, value_iff, fault_iff}
use Rattle.nbt_name.proofs.lent.find_plain.Goals as goal

pub returns : goal.returns
returns c = record {
  name = λ name next. value_iff (reads_stands Plain c.args.octets.now c.args.place) c.find_uncounted.result c.find_uncounted.ensures.name c.find_uncounted.ensures.fault (name, next);
  fault = fault_iff (reads_stands Plain c.args.octets.now c.args.place) c.find_uncounted.result c.find_uncounted.ensures.name c.find_uncounted.ensures.fault;
  within = result_within Plain c.args.octets.now c.args.place c.find_uncounted.result c.find_uncounted.ensures.name;
}
