use Rattle.std.proofs.Common.{refl}
use Rattle.nbt_text.specs.ScopedNames.{bad_word}
use Rattle.nbt_text.proofs.scoped_name.read_name.Goals as goal

pub with_scope-requires : goal.with_scope-requires
with_scope-requires c = (c.in-Ok.ensures.octets c.in-Ok.octets).0 refl

pub returns-in-Err-clause-fault : goal.returns-in-Err-clause-fault
returns-in-Err-clause-fault c = bad_word c.in-Err.fault ((c.in-Err.ensures.fault c.in-Err.fault).0 refl)
