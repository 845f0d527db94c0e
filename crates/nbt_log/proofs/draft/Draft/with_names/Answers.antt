use Rattle.std.proofs.Common.{◌-◌, ap, sym, subst, arith, take, drop}
use Rattle.std.specs.String.{string_bytes}
use Rattle.nbt_lease.specs.Lease.{Rows}
use Rattle.nbt_log.specs.Inner.Drafting.{IsBegun}
use Rattle.nbt_log.specs.declared.draft.Printer.{Printer}
use Rattle.nbt_log.proofs.Drafting.{as_before, one_part_known}
use Rattle.nbt_log.proofs.draft.Draft.with_names.Goals.{then-noted-end+in_ok-note, else-noted-end}
use Rattle.nbt_log.proofs.draft.Draft.with_names.Goals as goal

pub invariant_of-result : goal.invariant_of-result
invariant_of-result c =
    let at = c.self.inside.at in
    let rows = c.self.inside.rows.items in
    let noted = c.self.inside.noted in
    let done = c.self.inside.done in
    let end = c.min-end.result in
    let text = string_bytes c.self.inside.text in
    let end_is = c.min-end.ensures in
    let all = c.len.ensures in
    let noted_within = c.self.invariant.noted_within in
    elim c.if-noted-end.branch [
      | then-noted-end+in_ok-note w ↦
          let test = w.if-noted-end in
          subst (λ (p : Printer). IsBegun p at rows end done text) (sym w.printer-is)
          (one_part_known c.self.inside.printer w.note.new.self at rows _ noted done end text c.self.invariant (omega (arith, test)) (omega (arith, end_is, all))
          (ap (λ (rs : Rows). take (end - noted) (drop noted rs)) w.deref.ensures.value) w.in_ok-note.ensures.head w.in_ok-note.ensures.knows)
      | else-noted-end w ↦
          let test = w.if-noted-end in
          subst (λ (p : Printer). IsBegun p at rows end done text) (sym w.printer-is)
          (as_before c.self.inside.printer at rows noted done end text c.self.invariant (omega (arith, end_is, all, test)) (omega (arith, end_is, all, noted_within)))
    ]
