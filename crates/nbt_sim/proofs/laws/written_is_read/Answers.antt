use Rattle.nbt_sim.proofs.Escaped.{written_reads}
use Rattle.nbt_sim.proofs.laws.written_is_read.Goals as goal

pub returns : goal.returns
returns c = written_reads
