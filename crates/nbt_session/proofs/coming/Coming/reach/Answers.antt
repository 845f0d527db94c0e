use Rattle.std.proofs.Common.{◌∙◌}
use Rattle.std.proofs.lemmas.Result.{err_from_is_err_and}
use Rattle.nbt_session.proofs.Comings.{fault_joins}
use Rattle.nbt_session.proofs.coming.Coming.reach.Goals as goal

pub returns-in_err-frame-clause-fault : goal.returns-in_err-frame-clause-fault
returns-in_err-frame-clause-fault c =
    let p = err_from_is_err_and c.from_residual.result c.from_residual.ensures.1 in
    rw (p.1, p.2, c.in_default.is) (fault_joins c.args.self.now.header.items c.args.piece.now _ c.min-begin.result _ (c.as_slice.ensures.value ∙ c.joined-header.ensures) c.in_err-frame.ensures.fault)
