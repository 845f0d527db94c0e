use Rattle.nbt_waits.proofs.Reading.{none_to_ask, one_to_ask}
use Rattle.nbt_waits.proofs.looking.is_refresh_to_ask.Goals as goal

pub returns-else-claim-ip : goal.returns-else-claim-ip
returns-else-claim-ip c = one_to_ask c.args.ip c.args.octets.now c.refresh_in.result c.refresh_in.ensures c.in-Some.claim c.in-Some.is c.if-claim-ip.false c.is_by_p_node.result c.is_by_p_node.ensures

pub returns-in-None : goal.returns-in-None
returns-in-None c = none_to_ask c.args.ip c.args.octets.now c.refresh_in.result c.refresh_in.ensures c.in-None.is
