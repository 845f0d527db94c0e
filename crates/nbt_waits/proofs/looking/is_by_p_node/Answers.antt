use Rattle.nbt_waits.proofs.Reading.{by_entry, by_nothing}
use Rattle.nbt_waits.proofs.looking.is_by_p_node.Goals as goal

pub returns-in-Some : goal.returns-in-Some
returns-in-Some c = by_entry c.args.octets.now c.args.claim.now c.additional_in.result c.in-Some.record c.is_entry.result c.additional_in.ensures c.in-Some.is c.is_entry.ensures

pub returns-in-None : goal.returns-in-None
returns-in-None c = by_nothing c.args.octets.now c.args.claim.now c.additional_in.result c.additional_in.ensures c.in-None.is
