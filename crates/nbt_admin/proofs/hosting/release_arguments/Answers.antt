use Rattle.std.proofs.Common.{inl, inr}
use Rattle.std.proofs.lemmas.Result.{err_from_is_err_and}
use Rattle.nbt_admin.proofs.hosting.release_arguments.Goals as goal

pub returns-in_err-arguments : goal.returns-in_err-arguments
returns-in_err-arguments c =
    let p = err_from_is_err_and c.from_residual.result c.from_residual.ensures.1 in
    rw (p.1, p.2) (inl c.in_err-arguments.ensures)

pub returns-then-arguments-eq0 : goal.returns-then-arguments-eq0
returns-then-arguments-eq0 c = inr (c.in_ok-arguments.arguments, (c.in_ok-arguments.ensures, ((λ some. some c.if-arguments-eq0.true), c.of_argument.ensures)))
