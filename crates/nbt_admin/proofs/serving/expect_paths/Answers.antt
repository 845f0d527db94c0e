use Rattle.std.proofs.Common.{inl, inr}
use Rattle.std.proofs.lemmas.Result.{err_from_is_err_and}
use Rattle.nbt_admin.proofs.serving.expect_paths.Goals as goal

pub returns-in_err-expect_path-2 : goal.returns-in_err-expect_path-2
returns-in_err-expect_path-2 c =
    let p = err_from_is_err_and c.from_residual-in_err-expect_path-2.result c.from_residual-in_err-expect_path-2.ensures.1 in
    rw (p.1, p.2) (inr (inr (tt, (c.in_ok-expect_path.ensures, c.in_err-expect_path-2.ensures))))
