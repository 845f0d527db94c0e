use Rattle.std.proofs.Common.{refl}
use Rattle.nbt_node.specs.Moves.{nothing, told_of}
use Rattle.nbt_client.specs.Lookups.{hears, hears_back}
use Rattle.nbt_client.proofs.lookup_turn.hear.Goals as goal

pub returns-in-Ok : goal.returns-in-Ok
returns-in-Ok g c = (told_of c.in-Ok.event, hears c.args.from c.args.octets.now c.on_datagram.new.out.items (told_of c.in-Ok.event) c.on_datagram.new.self c.in-Ok.ensures.ok, c.is_end.ensures)

pub returns-in-Err : goal.returns-in-Err
returns-in-Err g c = let e = c.in-Err.ensures in (nothing, rw e.err.0 (hears_back c.args.from c.args.octets.now (e.refused.0 refl)), refl)
