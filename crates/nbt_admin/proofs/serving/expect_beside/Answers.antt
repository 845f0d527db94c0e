use Rattle.std.proofs.Common.{inl, inr}
use Rattle.std.proofs.lemmas.Result.{err_from_is_err_and}
use Rattle.nbt_admin.proofs.serving.expect_beside.Goals as goal

pub returns-in_err-expect_free-2 : goal.returns-in_err-expect_free-2
returns-in_err-expect_free-2 c =
    let p = err_from_is_err_and c.from_residual-in_err-expect_free-2.result c.from_residual-in_err-expect_free-2.ensures.1 in
    rw (p.1, p.2) (inr (inr (tt, (c.in_ok-expect_free.ensures, inr (inl c.in_err-expect_free-2.ensures)))))

pub returns-in_err-expect_free-3 : goal.returns-in_err-expect_free-3
returns-in_err-expect_free-3 c =
    let p = err_from_is_err_and c.from_residual-in_err-expect_free-3.result c.from_residual-in_err-expect_free-3.ensures.1 in
    rw (p.1, p.2) (inr (inr (tt, (c.in_ok-expect_free.ensures, inr (inr (tt, (c.in_ok-expect_free-2.ensures, c.in_err-expect_free-3.ensures)))))))
