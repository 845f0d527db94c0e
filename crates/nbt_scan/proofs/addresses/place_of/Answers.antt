use Rattle.nbt_scan.proofs.Placing.{has_place, has_no_place}
use Rattle.nbt_scan.proofs.addresses.place_of.Goals as goal

pub returns-in-Ok : goal.returns-in-Ok
returns-in-Ok c = has_place c.args.ips.now c.args.ip c.in-Ok.place c.binary_search.result c.requires c.binary_search.ensures.position c.in-Ok.is

pub returns-in-Err : goal.returns-in-Err
returns-in-Err c = has_no_place c.args.ips.now c.args.ip c.in-Err.field-0 c.binary_search.result c.requires c.binary_search.ensures.position c.in-Err.is
