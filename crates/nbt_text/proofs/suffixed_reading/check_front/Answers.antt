use Rattle.std.proofs.Common.{◌≡◌, length, arith, rules}
use Rattle.nbt_text.specs.SuffixedNames.{has_none, has_many, has_other}
use Rattle.nbt_text.proofs.suffixed_reading.check_front.Goals as goal

pub returns-then-is_empty-clause-err : goal.returns-then-is_empty-clause-err
returns-then-is_empty-clause-err c =
    let none : length c.args.front.now ≡ 0 = grind (arith, c.is_empty.ensures, c.if-is_empty.true) in has_none none

pub returns-then-front-gt-FRONT_MOST-clause-err : goal.returns-then-front-gt-FRONT_MOST-clause-err
returns-then-front-gt-FRONT_MOST-clause-err c = has_many c.if-front-gt-FRONT_MOST.true

pub returns-then-not-is_plain-clause-err : goal.returns-then-not-is_plain-clause-err
returns-then-not-is_plain-clause-err c =
    has_other c.places.place c.if-front-gt-FRONT_MOST.false c.places-test.true c.places.invariant (λ plain. let is = c.is_plain.ensures.1 plain in absurd (search (rules, is)))
