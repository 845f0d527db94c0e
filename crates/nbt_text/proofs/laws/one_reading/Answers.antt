use Rattle.nbt_text.proofs.Words.{octets_are_one, fault_is_one, not_both}
use Rattle.nbt_text.proofs.laws.one_reading.Goals as goal

pub returns-clause-one_spelled : goal.returns-clause-one_spelled
returns-clause-one_spelled c = octets_are_one

pub returns-clause-one_fault : goal.returns-clause-one_fault
returns-clause-one_fault c = fault_is_one

pub returns-clause-not_both : goal.returns-clause-not_both
returns-clause-not_both c = not_both
