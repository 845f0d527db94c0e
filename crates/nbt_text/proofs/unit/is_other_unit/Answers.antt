use Rattle.std.proofs.Common.{◌<◌, length, refl, rules}
use Rattle.std.specs.Prelude.{IsTrue}
use Rattle.nbt_text.proofs.unit.is_other_unit.Goals as goal

pub returns-in-Some : goal.returns-in-Some
returns-in-Some c = (λ t. absurd cc, λ other. absurd (other.other c.in-Some.field-0 ((c.unit_of.ensures c.in-Some.field-0).0 c.in-Some.is)))

pub returns-in-None : goal.returns-in-None
returns-in-None c = (
  λ t.
      let some : 0 < length c.args.unit.now = search rules in
      let letters : IsTrue c.are_letters.result = search rules in
      record { some = some; letters = c.are_letters.ensures.0 letters; other = λ each unit. let found = (c.unit_of.ensures each).1 unit in let none = c.in-None.is in cc },
  λ _. refl,
)
