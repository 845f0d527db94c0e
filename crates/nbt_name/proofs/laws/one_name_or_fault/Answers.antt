use Rattle.nbt_name.proofs.Ends.{one_name, one_fault, not_both}
use Rattle.nbt_name.proofs.Looking.{name_or_fault}
use Rattle.nbt_name.proofs.laws.one_name_or_fault.Goals as goal

pub returns : goal.returns
returns c = record { found = name_or_fault; one_name = one_name; one_fault = one_fault; not_both = not_both }
