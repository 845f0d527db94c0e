use Rattle.std.proofs.Common.{refl}
use Rattle.nbt_text.proofs.ScopedWords.{parted_is}
use Rattle.nbt_text.proofs.scoped_word.parted.Goals as goal

pub returns : goal.returns
returns c = parted_is c.args.word.now c.opened.result.0.now c.opened.result.1.now c.split_at_first.result.0.now _ c.split_at_first.result.1 c.opened.ensures c.split_at_first.ensures.whole c.split_at_first.ensures.first refl
