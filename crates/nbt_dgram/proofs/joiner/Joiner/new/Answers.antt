use Rattle.std.proofs.Common.{ap, arith}
use Rattle.nbt_dgram.specs.Joiner.{joiner_of}
use Rattle.nbt_dgram.proofs.SlotLists.{all_free}
use Rattle.nbt_dgram.proofs.joiner.Joiner.new.Goals as goal

pub returns : goal.returns
returns g c = ap (joiner_of 0) (all_free c.default.result g.row.S c.default.ensures.long (λ k d within. c.default.ensures.at k d (omega (arith, c.default.ensures.long))))
