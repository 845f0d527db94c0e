use Rattle.nbt_front.proofs.Decided.{decided_is, fixed_is_decided, unallowed_is_decided}
use Rattle.nbt_front.proofs.laws.what_is_decided.Goals as goal

pub returns-clause-decided : goal.returns-clause-decided
returns-clause-decided c = decided_is

pub returns-clause-fixed : goal.returns-clause-fixed
returns-clause-fixed c = fixed_is_decided

pub returns-clause-unallowed : goal.returns-clause-unallowed
returns-clause-unallowed c = unallowed_is_decided
