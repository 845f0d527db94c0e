use Rattle.std.proofs.Common.{refl}
use Rattle.nbt_front.specs.FixedNames.{fixed_of}
use Rattle.nbt_front.proofs.Past.{decided, not_confirmed}
use Rattle.nbt_front.proofs.laws.what_was_fixed_waits.Goals as goal

pub returns-clause-decided : goal.returns-clause-decided
returns-clause-decided c = λ old front live at now ip m r second claims. decided old front live at now ip r second m (fixed_of front.fixed r.name) refl claims

pub returns-clause-not_confirmed : goal.returns-clause-not_confirmed
returns-clause-not_confirmed c = λ old front live at now ip m reply r second claims. not_confirmed old front live at now ip r second m reply claims
