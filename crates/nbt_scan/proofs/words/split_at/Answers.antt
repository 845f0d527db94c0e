use Rattle.std.proofs.lemmas.Str.Pattern.{split_once_first}
use Rattle.nbt_scan.proofs.words.split_at.Goals as goal

pub returns : goal.returns
returns c = split_once_first c.args.mark c.args.text.now c.split_once.result c.split_once.ensures.cases c.requires
