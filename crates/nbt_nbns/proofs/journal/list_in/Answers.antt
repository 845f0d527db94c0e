use Rattle.nbt_nbns.specs.Journaling.{not_listed, listed}
use Rattle.nbt_nbns.proofs.journal.list_in.Goals as goal

pub returns-in-Some : goal.returns-in-Some
returns-in-Some g c = rw c.in-Some.is (listed c.in-Some.lister c.keep.result c.keep.new.self c.keep.ensures)

pub returns-in_default : goal.returns-in_default
returns-in_default g c = rw c.in_default.is not_listed
