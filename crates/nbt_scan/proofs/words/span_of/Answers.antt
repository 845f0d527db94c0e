use Rattle.std.proofs.lemmas.Result.{MatchResult-weaker}
use Rattle.nbt_scan.specs.Words.{network}
use Rattle.nbt_scan.proofs.Spelling.{no_network}
use Rattle.nbt_scan.proofs.words.span_of.Goals as goal

pub returns-in-Some : goal.returns-in-Some
returns-in-Some c =
    let cut = c.in-Some.ensures in
    let text = c.args.text.now in
    MatchResult-weaker c.network_of.result (rw (cut.1, cut.2) at c.network_of.ensures) (λ span is. network cut.0 is) (λ fault none. no_network text cut.0 none)
