use Rattle.std.proofs.Common.{inl, inr}
use Rattle.std.proofs.lemmas.Result.{err_from_is_err_and}
use Rattle.nbt_admin.proofs.hosting.OthersReadEach.read.Goals as goal

pub returns-in_err-other : goal.returns-in_err-other
returns-in_err-other c =
    let p = err_from_is_err_and c.from_residual.result c.from_residual.ensures.1 in
    rw (p.1, p.2) (inl c.in_err-other.ensures)

pub returns-then-has : goal.returns-then-has
returns-then-has c = inr (c.in_ok-other.other, (c.in_ok-other.ensures, ((λ none. none (c.has.ensures.0 c.if-has.true)), c.of_argument.ensures)))
