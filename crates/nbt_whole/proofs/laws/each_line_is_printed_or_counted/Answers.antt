use Rattle.nbt_whole.proofs.Printing.{each_line_is_printed_or_counted}
use Rattle.nbt_whole.proofs.laws.each_line_is_printed_or_counted.Goals as goal

pub returns : goal.returns
returns c = each_line_is_printed_or_counted
