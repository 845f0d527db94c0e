use Rattle.std.proofs.lemmas.Result.{MatchResult-weaker}
use Rattle.nbt_scan.specs.Words.{range, address}
use Rattle.nbt_scan.proofs.Spelling.{no_range, no_address}
use Rattle.nbt_scan.proofs.words.range_or_address.Goals as goal

pub returns-in-Some : goal.returns-in-Some
returns-in-Some c =
    let cut = c.in-Some.ensures in
    let text = c.args.text.now in
    MatchResult-weaker c.range_of.result (rw (cut.1, cut.2) at c.range_of.ensures) (λ span is. range c.requires cut.0 is) (λ fault none. no_range text c.requires cut.0 none)

pub returns-in-None : goal.returns-in-None
returns-in-None c =
    let text = c.args.text.now in
    MatchResult-weaker c.address_alone.result c.address_alone.ensures (λ span is. address c.requires c.in-None.ensures is.0 is.1) (λ fault none. no_address text c.requires c.in-None.ensures none)
