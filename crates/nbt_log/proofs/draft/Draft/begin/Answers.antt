use Rattle.std.proofs.Common.{◌≡◌, ◌∙◌, length, arith}
use Rattle.std.specs.String.{string_bytes}
use Rattle.nbt_log.proofs.Drafting.{none_yet}
use Rattle.nbt_log.proofs.draft.Draft.begin.Goals as goal

pub invariant_of-result : goal.invariant_of-result
invariant_of-result c =
    let count = c.len.ensures in
    let all : c.len.result ≡ length c.args.rows.items = omega (arith, count) in
    none_yet c.in_ok-printer.printer c.args.now c.args.rows.items c.noted_at_first-noted.result (string_bytes c.in_ok-text.text)
    c.in_ok-printer.ensures.knows (c.noted_at_first-noted.ensures c.args.rows.items all) (c.in_ok-text.ensures.ok ∙ c.head.ensures)
