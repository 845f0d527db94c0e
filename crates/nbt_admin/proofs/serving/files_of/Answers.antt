use Rattle.std.proofs.Common.{inl, inr, refl}
use Rattle.std.proofs.lemmas.Result.{err_from_is_err_and}
use Rattle.nbt_admin.proofs.serving.files_of.Goals as goal

pub returns-in_err-hosts : goal.returns-in_err-hosts
returns-in_err-hosts c =
    let p = err_from_is_err_and c.from_residual-in_err-hosts.result c.from_residual-in_err-hosts.ensures.1 in
    rw (p.1, p.2) (inr (inr (c.in_ok-leases.leases, (c.in_ok-leases.ensures, inr (inl c.in_err-hosts.ensures)))))

pub returns-in_err-stats : goal.returns-in_err-stats
returns-in_err-stats c =
    let p = err_from_is_err_and c.from_residual-in_err-stats.result c.from_residual-in_err-stats.ensures.1 in
    rw (p.1, p.2) (inr (inr (c.in_ok-leases.leases, (c.in_ok-leases.ensures, inr (inr (c.in_ok-hosts.hosts, (c.in_ok-hosts.ensures, inr (inl c.in_err-stats.ensures))))))))

pub returns-in_err-apart : goal.returns-in_err-apart
returns-in_err-apart c =
    let p = err_from_is_err_and c.from_residual-in_err-apart.result c.from_residual-in_err-apart.ensures.1 in
    rw (p.1, p.2) (inr (inr (c.in_ok-leases.leases, (c.in_ok-leases.ensures, inr (inr (c.in_ok-hosts.hosts, (c.in_ok-hosts.ensures, inr (inr (c.in_ok-stats.stats, (c.in_ok-stats.ensures, inr (inl c.in_err-apart.ensures.failure)))))))))))

pub returns-in_err-apart-2 : goal.returns-in_err-apart-2
returns-in_err-apart-2 c =
    let p = err_from_is_err_and c.from_residual-in_err-apart-2.result c.from_residual-in_err-apart-2.ensures.1 in
    rw (p.1, p.2) (inr (inr (c.in_ok-leases.leases, (c.in_ok-leases.ensures, inr (inr (c.in_ok-hosts.hosts, (c.in_ok-hosts.ensures, inr (inr (c.in_ok-stats.stats, (c.in_ok-stats.ensures, inr (inr (tt, (c.in_ok-apart.ensures.ok, inr (inl c.in_err-apart-2.ensures.failure))))))))))))))

pub returns-in_err-apart-3 : goal.returns-in_err-apart-3
returns-in_err-apart-3 c =
    let p = err_from_is_err_and c.from_residual-in_err-apart-3.result c.from_residual-in_err-apart-3.ensures.1 in
    rw (p.1, p.2) (inr (inr (c.in_ok-leases.leases, (c.in_ok-leases.ensures, inr (inr (c.in_ok-hosts.hosts, (c.in_ok-hosts.ensures, inr (inr (c.in_ok-stats.stats, (c.in_ok-stats.ensures, inr (inr (tt, (c.in_ok-apart.ensures.ok, inr (inr (tt, (c.in_ok-apart-2.ensures.ok, inr (inl c.in_err-apart-3.ensures.failure)))))))))))))))))

pub returns : goal.returns
returns c = (c.in_ok-leases.leases, (c.in_ok-leases.ensures, (c.in_ok-hosts.hosts, (c.in_ok-hosts.ensures, (c.in_ok-stats.stats, (c.in_ok-stats.ensures, (tt, (c.in_ok-apart.ensures.ok, (tt, (c.in_ok-apart-2.ensures.ok, (tt, (c.in_ok-apart-3.ensures.ok, refl))))))))))))
