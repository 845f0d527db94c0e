use Rattle.std.proofs.Common.{arith}
use Rattle.nbt_session.proofs.Cells.{addr_octets}
use Rattle.nbt_session.proofs.body.addr_in.Goals as goal

pub returns-clause-octets : goal.returns-clause-octets
returns-clause-octets c = addr_octets c.args.body.now _ _ (λ k. omega (arith, c.type_inv.body k)) c.requires c.read_long.ensures c.read_word.ensures
