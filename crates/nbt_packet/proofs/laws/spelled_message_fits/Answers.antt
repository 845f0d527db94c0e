use Rattle.nbt_packet.proofs.Writable.{spelled_fits}
use Rattle.nbt_packet.proofs.laws.spelled_message_fits.Goals as goal

pub returns : goal.returns
returns c = spelled_fits
