use Rattle.nbt_text.proofs.PrintedOctets.{printed_spells}
use Rattle.nbt_text.proofs.laws.printed_octets_are_read.Goals as goal

pub returns : goal.returns
returns c = printed_spells
