use Rattle.nbt_serve.proofs.SambaTaken.{hands_nothing, hands_on}
use Rattle.nbt_serve.proofs.samba_port.hand_on.Goals as goal

pub returns-then-is_some : goal.returns-then-is_some
returns-then-is_some c =
    hands_on c.args.from c.args.octets.now.items c.as_mut_slice.result.now c.take_registration.new.octets c.take_registration.result c.if-is_some.ensures c.as_mut_slice.ensures.value
    c.take_registration.ensures.taken c.take_registration.ensures.octets

pub returns-else-is_some : goal.returns-else-is_some
returns-else-is_some c = hands_nothing c.args.from c.args.octets.now.items c.if-is_some.ensures
