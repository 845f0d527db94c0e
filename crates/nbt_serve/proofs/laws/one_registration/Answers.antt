use Rattle.nbt_packet.specs.Message.{registration}
use Rattle.nbt_serve.specs.Samba.{as_registration}
use Rattle.nbt_serve.proofs.SambaTaken.{spelled, one_claim}
use Rattle.nbt_serve.proofs.laws.one_registration.Goals as goal

pub returns : goal.returns
returns c = λ octets r s a b. one_claim (c.one_message_spelled.ensures (as_registration octets) (registration r) (registration s) (spelled octets r a) (spelled octets s b))
