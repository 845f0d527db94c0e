use Rattle.nbt_text.specs.ScopedNames.{at_mark, in_digits}
use Rattle.nbt_text.proofs.scoped_word.opened.Goals as goal

pub returns-in-Some : goal.returns-in-Some
returns-in-Some c = in_digits (c.in-Some.field-0.now, c.in-Some.ensures.digits)

pub returns-in-None : goal.returns-in-None
returns-in-None c = at_mark c.cut.result.0.now c.cut.result.1.now c.in-None.ensures.none c.cut.ensures
