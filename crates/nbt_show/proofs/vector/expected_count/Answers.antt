use Rattle.nbt_show.proofs.Vectors.{no_count, name_count, dgram_count, nothing}
use Rattle.nbt_show.proofs.vector.expected_count.Goals as goal

pub returns-in_err-count : goal.returns-in_err-count
returns-in_err-count c = λ e. nothing c.from_residual.result e _ c.from_residual.ensures (no_count _ _ c.place_of.result e c.place_of.ensures c.in_err-count.was)

pub returns-in-Name : goal.returns-in-Name
returns-in-Name c = λ e. name_count _ _ c.place_of.result c.in_ok-count.count e c.in-Name.is c.place_of.ensures c.in_ok-count.was

pub returns-in-Dgram : goal.returns-in-Dgram
returns-in-Dgram c = λ e. dgram_count _ _ c.place_of.result c.in_ok-count.count e c.in-Dgram.is c.place_of.ensures c.in_ok-count.was
