use Rattle.nbt_text.proofs.ScopedWords.{printed_is_read}
use Rattle.nbt_text.proofs.laws.printed_scoped_name_is_read.Goals as goal

pub returns : goal.returns
returns c = printed_is_read
