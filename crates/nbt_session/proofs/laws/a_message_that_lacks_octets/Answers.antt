use Rattle.nbt_session.proofs.Comings.{message_lacks}
use Rattle.nbt_session.proofs.laws.a_message_that_lacks_octets.Goals as goal

pub returns : goal.returns
returns c = message_lacks
