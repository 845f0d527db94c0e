use Rattle.std.proofs.Common.{sym, subst}
use Rattle.nbt_name.specs.Wire.{NameValue}
use Rattle.nbt_text.specs.ScopedNames.{SpellsName, bad_scope}
use Rattle.nbt_text.proofs.scoped_name.with_scope.Goals as goal

pub returns-in-Some-clause-name : goal.returns-in-Some-clause-name
returns-in-Some-clause-name c =
    subst (λ (name : NameValue). SpellsName c.args.case c.args.word.now c.args.scope.now name) (sym c.with_octets.ensures) (record { octets = c.requires; scope = c.in-Some.ensures.read })

pub returns-in-None-clause-fault : goal.returns-in-None-clause-fault
returns-in-None-clause-fault c = bad_scope c.args.octets.now c.requires c.in-None.ensures.none
