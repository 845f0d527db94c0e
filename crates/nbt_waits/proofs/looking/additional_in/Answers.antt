use Rattle.nbt_waits.proofs.Reading.{additional_found, no_packet}
use Rattle.nbt_waits.proofs.looking.additional_in.Goals as goal

pub returns-in-Ok : goal.returns-in-Ok
returns-in-Ok c = additional_found c.decode.result c.args.octets.now c.decode.ensures.packet c.in-Ok.packet c.in-Ok.field-0-1 c.in-Ok.is

pub returns-in-Err : goal.returns-in-Err
returns-in-Err c = no_packet c.decode.result c.args.octets.now c.decode.ensures.packet c.in-Err.field-0 c.in-Err.is
