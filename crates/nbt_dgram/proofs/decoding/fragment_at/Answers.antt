use Rattle.std.proofs.Common.{sym, ◌∙◌, subst, ◌≤◌, length, take, ℕ}
use Rattle.std.proofs.lemmas.Result.{err_from_is_err_and}
use Rattle.nbt_dgram.specs.Fields.{end_at}
use Rattle.nbt_dgram.specs.Dgram.{NamesFault, offset_bad, fragment_cut, names_bad}
use Rattle.nbt_dgram.proofs.decoding.fragment_at.Goals as goal

pub returns-in_err-offset-clause-fault : goal.returns-in_err-offset-clause-fault
returns-in_err-offset-clause-fault c =
    let p = err_from_is_err_and c.from_residual.result c.from_residual.ensures.1 in
    let bad = c.in_err-offset.ensures.fault in
    rw (p.1, p.2, bad.2) (offset_bad (sym c.is_first-first.ensures ∙ bad.0) bad.1)

pub returns-in_err-end-clause-fault : goal.returns-in_err-end-clause-fault
returns-in_err-end-clause-fault c =
    let p = err_from_is_err_and c.from_residual-in_err-end.result c.from_residual-in_err-end.ensures.1 in
    let cut = c.in_err-end.ensures.fault in
    let offset = c.in_ok-offset.ensures.offset in
    rw (p.1, p.2, cut.1) (fragment_cut (λ first. sym offset.0 ∙ offset.1 (c.is_first-first.ensures ∙ first)) cut.0)

pub returns-in_err-part-clause-fault : goal.returns-in_err-part-clause-fault
returns-in_err-part-clause-fault c =
    let p = err_from_is_err_and c.from_residual-in_err-part.result c.from_residual-in_err-part.ensures.1 in
    let bad = c.in_err-part.ensures.fault in
    let offset = c.in_ok-offset.ensures.offset in
    let end = c.in_ok-end.ensures.end in
    let whole : end_at c.args.octets.now ≤ length c.args.octets.now = rw (← end.0) end.1 in
    rw (p.1, p.2) (names_bad _ (sym c.is_first-first.ensures ∙ bad.0) (sym offset.0 ∙ offset.1 bad.0) whole (subst (λ (k : ℕ). NamesFault (take k c.args.octets.now) c.in_err-part.field-0.0) end.0 bad.1))
