use Rattle.nbt_text.proofs.ScopedWords.{none_own}
use Rattle.nbt_text.proofs.scoped_word.own_scope.Goals as goal

pub returns-else-is_empty-clause-none : goal.returns-else-is_empty-clause-none
returns-else-is_empty-clause-none c = none_own c.args.text.now c.scoped.result c.scoped.ensures.none
