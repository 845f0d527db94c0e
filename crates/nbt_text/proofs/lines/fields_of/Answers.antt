use Rattle.std.proofs.Common.{◌==◌, ◌||◌, not, length, rules}
use Rattle.std.proofs.lemmas.Iterator.Consumers.{map_from_collect, YieldsList-at, YieldsList-from_filter}
use Rattle.std.proofs.lemmas.Iterator.Splits.{YieldsList-from_slice_split}
use borrow.Author.Tests.{tests}
use Rattle.nbt_text.proofs.lines.fields_of.Goals as goal

pub returns : goal.returns
returns c = map_from_collect _ c.collect.ensures.ran (YieldsList-from_filter _ (λ field. not (length field == 0))
    (YieldsList-at c.filter.ensures.source
    (YieldsList-from_slice_split _ (λ octet. (octet == 32) || (octet == 9)) c.args.line.now c.split.ensures.rest c.split.ensures.done c.split.ensures.closure (λ x r q k. search (rules, tests))))
    c.filter.ensures.closure (λ x r q k. search (rules, tests)))
