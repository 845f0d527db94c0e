use Rattle.std.proofs.Common.{inl, inr, refl}
use Rattle.std.proofs.lemmas.Result.{err_from_is_err_and}
use Rattle.nbt_admin.proofs.serving.nbns_arguments.Goals as goal

pub returns-in_err-time : goal.returns-in_err-time
returns-in_err-time c =
    let p = err_from_is_err_and c.from_residual-in_err-time.result c.from_residual-in_err-time.ensures.1 in
    rw (p.1, p.2) (inr (inr (c.in_ok-config.config, (c.in_ok-config.ensures, inr (inl c.in_err-time.ensures)))))

pub returns-in_err-fit : goal.returns-in_err-fit
returns-in_err-fit c =
    let p = err_from_is_err_and c.from_residual-in_err-fit.result c.from_residual-in_err-fit.ensures.1 in
    rw (p.1, p.2) (inr (inr (c.in_ok-config.config, (c.in_ok-config.ensures, inr (inr (c.in_ok-time.time, (c.in_ok-time.ensures, inr (inl c.in_err-fit.ensures))))))))

pub returns-in_err-bind : goal.returns-in_err-bind
returns-in_err-bind c =
    let p = err_from_is_err_and c.from_residual-in_err-bind.result c.from_residual-in_err-bind.ensures.1 in
    rw (p.1, p.2, ← c.as_slice.ensures.value) (inr (inr (c.in_ok-config.config, (c.in_ok-config.ensures, inr (inr (c.in_ok-time.time, (c.in_ok-time.ensures, inr (inr (tt, (c.in_ok-fit.ensures, inr (inl c.in_err-bind.ensures)))))))))))

pub returns-in_err-state : goal.returns-in_err-state
returns-in_err-state c =
    let p = err_from_is_err_and c.from_residual-in_err-state.result c.from_residual-in_err-state.ensures.1 in
    rw (p.1, p.2, ← c.as_slice.ensures.value) (inr (inr (c.in_ok-config.config, (c.in_ok-config.ensures, inr (inr (c.in_ok-time.time, (c.in_ok-time.ensures, inr (inr (tt, (c.in_ok-fit.ensures, inr (inr (c.in_ok-bind.bind, (c.in_ok-bind.ensures, inr (inl c.in_err-state.ensures))))))))))))))

pub returns-in_err-files : goal.returns-in_err-files
returns-in_err-files c =
    let p = err_from_is_err_and c.from_residual-in_err-files.result c.from_residual-in_err-files.ensures.1 in
    rw (p.1, p.2, ← c.as_slice.ensures.value) (inr (inr (c.in_ok-config.config, (c.in_ok-config.ensures, inr (inr (c.in_ok-time.time, (c.in_ok-time.ensures, inr (inr (tt, (c.in_ok-fit.ensures, inr (inr (c.in_ok-bind.bind, (c.in_ok-bind.ensures, inr (inr (c.in_ok-state.state, (c.in_ok-state.ensures, inr (inl c.in_err-files.ensures)))))))))))))))))

pub returns-in_err-expect_beside : goal.returns-in_err-expect_beside
returns-in_err-expect_beside c =
    let p = err_from_is_err_and c.from_residual-in_err-expect_beside.result c.from_residual-in_err-expect_beside.ensures.1 in
    rw (p.1, p.2, ← c.as_slice.ensures.value) (inr (inr (c.in_ok-config.config, (c.in_ok-config.ensures, inr (inr (c.in_ok-time.time, (c.in_ok-time.ensures, inr (inr (tt, (c.in_ok-fit.ensures, inr (inr (c.in_ok-bind.bind, (c.in_ok-bind.ensures, inr (inr (c.in_ok-state.state, (c.in_ok-state.ensures, inr (inr (c.in_ok-files.files, (c.in_ok-files.ensures, inr (inl c.in_err-expect_beside.ensures))))))))))))))))))))

pub returns-in_err-rows : goal.returns-in_err-rows
returns-in_err-rows c =
    let p = err_from_is_err_and c.from_residual-in_err-rows.result c.from_residual-in_err-rows.ensures.1 in
    rw (p.1, p.2, ← c.as_slice.ensures.value) (inr (inr (c.in_ok-config.config, (c.in_ok-config.ensures, inr (inr (c.in_ok-time.time, (c.in_ok-time.ensures, inr (inr (tt, (c.in_ok-fit.ensures, inr (inr (c.in_ok-bind.bind, (c.in_ok-bind.ensures, inr (inr (c.in_ok-state.state, (c.in_ok-state.ensures, inr (inr (c.in_ok-files.files, (c.in_ok-files.ensures, inr (inr (tt, (c.in_ok-expect_beside.ensures, inr (inl c.in_err-rows.ensures.read)))))))))))))))))))))))

pub returns-in_err-client_rows : goal.returns-in_err-client_rows
returns-in_err-client_rows c =
    let p = err_from_is_err_and c.from_residual-in_err-client_rows.result c.from_residual-in_err-client_rows.ensures.1 in
    rw (p.1, p.2, ← c.as_slice.ensures.value) (inr (inr (c.in_ok-config.config, (c.in_ok-config.ensures, inr (inr (c.in_ok-time.time, (c.in_ok-time.ensures, inr (inr (tt, (c.in_ok-fit.ensures, inr (inr (c.in_ok-bind.bind, (c.in_ok-bind.ensures, inr (inr (c.in_ok-state.state, (c.in_ok-state.ensures, inr (inr (c.in_ok-files.files, (c.in_ok-files.ensures, inr (inr (tt, (c.in_ok-expect_beside.ensures, inr (inr (c.in_ok-rows.rows, (c.in_ok-rows.ensures.read, inr (inl c.in_err-client_rows.ensures))))))))))))))))))))))))))

pub returns-in_err-changes : goal.returns-in_err-changes
returns-in_err-changes c =
    let p = err_from_is_err_and c.from_residual-in_err-changes.result c.from_residual-in_err-changes.ensures.1 in
    rw (p.1, p.2, ← c.as_slice.ensures.value) (inr (inr (c.in_ok-config.config, (c.in_ok-config.ensures, inr (inr (c.in_ok-time.time, (c.in_ok-time.ensures, inr (inr (tt, (c.in_ok-fit.ensures, inr (inr (c.in_ok-bind.bind, (c.in_ok-bind.ensures, inr (inr (c.in_ok-state.state, (c.in_ok-state.ensures, inr (inr (c.in_ok-files.files, (c.in_ok-files.ensures, inr (inr (tt, (c.in_ok-expect_beside.ensures, inr (inr (c.in_ok-rows.rows, (c.in_ok-rows.ensures.read, inr (inr (c.in_ok-client_rows.client_rows, (c.in_ok-client_rows.ensures, inr (inl c.in_err-changes.ensures)))))))))))))))))))))))))))))

pub returns-in_err-rate : goal.returns-in_err-rate
returns-in_err-rate c =
    let p = err_from_is_err_and c.from_residual-in_err-rate.result c.from_residual-in_err-rate.ensures.1 in
    rw (p.1, p.2, ← c.as_slice.ensures.value) (inr (inr (c.in_ok-config.config, (c.in_ok-config.ensures, inr (inr (c.in_ok-time.time, (c.in_ok-time.ensures, inr (inr (tt, (c.in_ok-fit.ensures, inr (inr (c.in_ok-bind.bind, (c.in_ok-bind.ensures, inr (inr (c.in_ok-state.state, (c.in_ok-state.ensures, inr (inr (c.in_ok-files.files, (c.in_ok-files.ensures, inr (inr (tt, (c.in_ok-expect_beside.ensures, inr (inr (c.in_ok-rows.rows, (c.in_ok-rows.ensures.read, inr (inr (c.in_ok-client_rows.client_rows, (c.in_ok-client_rows.ensures, inr (inr (c.in_ok-changes.changes, (c.in_ok-changes.ensures, inr (inl c.in_err-rate.ensures))))))))))))))))))))))))))))))))

pub returns : goal.returns
returns c = (c.in_ok-config.config, (c.in_ok-config.ensures, (c.in_ok-time.time, (c.in_ok-time.ensures, (tt, (c.in_ok-fit.ensures, (c.in_ok-bind.bind, (rw (← c.as_slice.ensures.value) c.in_ok-bind.ensures, (c.in_ok-state.state, (c.in_ok-state.ensures, (c.in_ok-files.files, (c.in_ok-files.ensures, (tt, (c.in_ok-expect_beside.ensures, (c.in_ok-rows.rows, (c.in_ok-rows.ensures.read, (c.in_ok-client_rows.client_rows, (c.in_ok-client_rows.ensures, (c.in_ok-changes.changes, (c.in_ok-changes.ensures, (c.in_ok-rate.rate, (c.in_ok-rate.ensures, rw (c.unwrap_or-rows_per_client.ensures, c.unwrap_or-changes_per_client.ensures, c.unwrap_or-log_rate.ensures, c.with_rows.ensures, c.new.ensures, c.none.ensures) refl))))))))))))))))))))))
