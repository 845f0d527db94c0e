use Rattle.std.proofs.Common.{lit<, lit≤}
use Rattle.nbt_store.proofs.writing.add_no_further.Goals as goal

pub push_word-requires : goal.push_word-requires
push_word-requires c = record { some = lit< tt; marks = (lit≤ tt, tt) }
