use Rattle.nbt_text.specs.declared.casing.Case.TheVariants.{Folded}
use Rattle.nbt_lists.proofs.Written.{read_again}
use Rattle.nbt_lists.proofs.laws.what_is_written_is_read.Goals as goal

pub returns : goal.returns
returns c = read_again (c.printed_scoped_name_is_read.ensures Folded)
