use Rattle.std.proofs.Common.{inl, inr}
use Rattle.std.proofs.lemmas.Result.{err_from_is_err_and}
use Rattle.nbt_admin.proofs.asking.status_arguments.Goals as goal

pub returns-in_err-host : goal.returns-in_err-host
returns-in_err-host c =
    let p = err_from_is_err_and c.from_residual-in_err-host.result c.from_residual-in_err-host.ensures.1 in
    rw (p.1, p.2) (inr (inr (c.in_ok-patience.patience, (c.in_ok-patience.ensures, inr (inl c.in_err-host.ensures)))))

pub returns-in_err-bind : goal.returns-in_err-bind
returns-in_err-bind c =
    let p = err_from_is_err_and c.from_residual-in_err-bind.result c.from_residual-in_err-bind.ensures.1 in
    rw (p.1, p.2) (inr (inr (c.in_ok-patience.patience, (c.in_ok-patience.ensures, inr (inr (c.in_ok-host.host, (c.in_ok-host.ensures, inr (inl c.in_err-bind.ensures))))))))

pub returns-in_err-apart : goal.returns-in_err-apart
returns-in_err-apart c =
    let p = err_from_is_err_and c.from_residual-in_err-apart.result c.from_residual-in_err-apart.ensures.1 in
    rw (p.1, p.2) (inr (inr (c.in_ok-patience.patience, (c.in_ok-patience.ensures, inr (inr (c.in_ok-host.host, (c.in_ok-host.ensures, inr (inr (c.in_ok-bind.bind, (c.in_ok-bind.ensures, inr (inl c.in_err-apart.ensures)))))))))))

pub returns-in_err-expect_no_address : goal.returns-in_err-expect_no_address
returns-in_err-expect_no_address c =
    let p = err_from_is_err_and c.from_residual-in_err-expect_no_address.result c.from_residual-in_err-expect_no_address.ensures.1 in
    rw (p.1, p.2) (inr (inr (c.in_ok-patience.patience, (c.in_ok-patience.ensures, inr (inr (c.in_ok-host.host, (c.in_ok-host.ensures, inr (inr (c.in_ok-bind.bind, (c.in_ok-bind.ensures, inr (inr (tt, (c.in_ok-apart.ensures, inr (inl c.in_err-expect_no_address.ensures))))))))))))))

pub returns-in_err-name : goal.returns-in_err-name
returns-in_err-name c =
    let p = err_from_is_err_and c.from_residual-in_err-name.result c.from_residual-in_err-name.ensures.1 in
    rw (p.1, p.2) (inr (inr (c.in_ok-patience.patience, (c.in_ok-patience.ensures, inr (inr (c.in_ok-host.host, (c.in_ok-host.ensures, inr (inr (c.in_ok-bind.bind, (c.in_ok-bind.ensures, inr (inr (tt, (c.in_ok-apart.ensures, inr (inr (tt, (c.in_ok-expect_no_address.ensures, inr (inl c.in_err-name.ensures)))))))))))))))))
