use Rattle.nbt_text.proofs.PrintedNames.{printed_spells}
use Rattle.nbt_text.proofs.laws.printed_name_is_read.Goals as goal

pub returns : goal.returns
returns c = printed_spells
