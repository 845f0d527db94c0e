use Rattle.std.proofs.Common.{inl, inr, refl}
use Rattle.std.proofs.lemmas.Result.{err_from_is_err_and}
use Rattle.nbt_admin.proofs.hosting.host_arguments.Goals as goal

pub returns-in_err-time : goal.returns-in_err-time
returns-in_err-time c =
    let p = err_from_is_err_and c.from_residual-in_err-time.result c.from_residual-in_err-time.ensures.1 in
    rw (p.1, p.2) (inr (inr (c.in_ok-config.config, (c.in_ok-config.ensures, inr (inl c.in_err-time.ensures)))))

pub returns-in_err-fit : goal.returns-in_err-fit
returns-in_err-fit c =
    let p = err_from_is_err_and c.from_residual-in_err-fit.result c.from_residual-in_err-fit.ensures.1 in
    rw (p.1, p.2) (inr (inr (c.in_ok-config.config, (c.in_ok-config.ensures, inr (inr (c.in_ok-time.time, (c.in_ok-time.ensures, inr (inl c.in_err-fit.ensures))))))))

pub returns-in_err-server : goal.returns-in_err-server
returns-in_err-server c =
    let p = err_from_is_err_and c.from_residual-in_err-server.result c.from_residual-in_err-server.ensures.1 in
    rw (p.1, p.2) (inr (inr (c.in_ok-config.config, (c.in_ok-config.ensures, inr (inr (c.in_ok-time.time, (c.in_ok-time.ensures, inr (inr (tt, (c.in_ok-fit.ensures, inr (inl c.in_err-server.ensures)))))))))))

pub returns-in_err-bind : goal.returns-in_err-bind
returns-in_err-bind c =
    let p = err_from_is_err_and c.from_residual-in_err-bind.result c.from_residual-in_err-bind.ensures.1 in
    rw (p.1, p.2) (inr (inr (c.in_ok-config.config, (c.in_ok-config.ensures, inr (inr (c.in_ok-time.time, (c.in_ok-time.ensures, inr (inr (tt, (c.in_ok-fit.ensures, inr (inr (c.in_ok-server.server, (c.in_ok-server.ensures, inr (inl c.in_err-bind.ensures))))))))))))))

pub returns-in_err-apart : goal.returns-in_err-apart
returns-in_err-apart c =
    let p = err_from_is_err_and c.from_residual-in_err-apart.result c.from_residual-in_err-apart.ensures.1 in
    rw (p.1, p.2) (inr (inr (c.in_ok-config.config, (c.in_ok-config.ensures, inr (inr (c.in_ok-time.time, (c.in_ok-time.ensures, inr (inr (tt, (c.in_ok-fit.ensures, inr (inr (c.in_ok-server.server, (c.in_ok-server.ensures, inr (inr (c.in_ok-bind.bind, (c.in_ok-bind.ensures, inr (inl c.in_err-apart.ensures)))))))))))))))))

pub returns-in_err-others : goal.returns-in_err-others
returns-in_err-others c =
    let p = err_from_is_err_and c.from_residual-in_err-others.result c.from_residual-in_err-others.ensures.1 in
    rw (p.1, p.2) (inr (inr (c.in_ok-config.config, (c.in_ok-config.ensures, inr (inr (c.in_ok-time.time, (c.in_ok-time.ensures, inr (inr (tt, (c.in_ok-fit.ensures, inr (inr (c.in_ok-server.server, (c.in_ok-server.ensures, inr (inr (c.in_ok-bind.bind, (c.in_ok-bind.ensures, inr (inr (tt, (c.in_ok-apart.ensures, inr (inl c.in_err-others.ensures.failure))))))))))))))))))))

pub returns-in_err-wants : goal.returns-in_err-wants
returns-in_err-wants c =
    let p = err_from_is_err_and c.from_residual-in_err-wants.result c.from_residual-in_err-wants.ensures.1 in
    rw (p.1, p.2) (inr (inr (c.in_ok-config.config, (c.in_ok-config.ensures, inr (inr (c.in_ok-time.time, (c.in_ok-time.ensures, inr (inr (tt, (c.in_ok-fit.ensures, inr (inr (c.in_ok-server.server, (c.in_ok-server.ensures, inr (inr (c.in_ok-bind.bind, (c.in_ok-bind.ensures, inr (inr (tt, (c.in_ok-apart.ensures, inr (inr (c.in_ok-others.others.items, (c.in_ok-others.ensures.others, inr (inl c.in_err-wants.ensures.failure)))))))))))))))))))))))

pub returns : goal.returns
returns c = (c.in_ok-config.config, (c.in_ok-config.ensures, (c.in_ok-time.time, (c.in_ok-time.ensures, (tt, (c.in_ok-fit.ensures, (c.in_ok-server.server, (c.in_ok-server.ensures, (c.in_ok-bind.bind, (c.in_ok-bind.ensures, (tt, (c.in_ok-apart.ensures, (c.in_ok-others.others.items, (c.in_ok-others.ensures.others, (c.in_ok-wants.wants.items, (c.in_ok-wants.ensures.wants, (refl, refl, refl)))))))))))))))))
