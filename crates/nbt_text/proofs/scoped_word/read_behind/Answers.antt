use Rattle.std.proofs.Common.{refl, sym, subst}
use Rattle.nbt_text.specs.ScopedNames.{SpellsBehind, bad_bare, bad_own}
use Rattle.nbt_text.proofs.scoped_word.read_behind.Goals as goal

pub returns-in-Some-clause-name : goal.returns-in-Some-clause-name
returns-in-Some-clause-name c =
    subst (SpellsBehind c.args.case c.args.bare.now c.args.own.now) (sym c.with_octets.ensures) (record { octets = (c.in-Ok.ensures.octets c.in-Ok.octets).0 refl; scope = c.in-Some.ensures.read })

pub returns-in-None-clause-fault : goal.returns-in-None-clause-fault
returns-in-None-clause-fault c = bad_own c.in-Ok.octets ((c.in-Ok.ensures.octets c.in-Ok.octets).0 refl) c.in-None.ensures.none

pub returns-in-Err-clause-fault : goal.returns-in-Err-clause-fault
returns-in-Err-clause-fault c = bad_bare c.in-Err.fault ((c.in-Err.ensures.fault c.in-Err.fault).0 refl)
