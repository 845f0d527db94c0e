use Rattle.std.proofs.Common.{◌≡◌, ◌-◌, ap, arith, length, sym, subst, take, drop}
use Rattle.std.specs.String.{string_bytes}
use Rattle.nbt_lease.specs.Lease.{Rows}
use Rattle.nbt_log.specs.Drafts.{DraftValue}
use Rattle.nbt_log.proofs.Drafting.{one_part}
use Rattle.nbt_log.proofs.draft.Draft.with_lines.Goals as goal

pub invariant_of-result : goal.invariant_of-result
invariant_of-result c =
    let end = c.min-end.ensures in
    let all = c.len.ensures in
    let within = c.self.invariant.within in
    let lines = c.in_ok-write.ensures in
    let done = c.self.inside.done in
    one_part c.self.inside.printer c.self.inside.at c.self.inside.rows.items _ c.self.inside.noted done c.min-end.result (string_bytes c.self.inside.text) (string_bytes c.write.new.out) lines.0
    c.self.invariant (subst (λ (d : DraftValue). d.noted ≡ length d.rows) (sym c.self.view_is) c.requires) (omega (arith, end, all, within)) (omega (arith, end, all))
    (ap (λ (rows : Rows). take (c.min-end.result - done) (drop done rows)) c.deref.ensures.value) lines.1 lines.2
