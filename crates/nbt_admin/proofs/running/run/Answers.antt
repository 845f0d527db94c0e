use Rattle.std.proofs.Common.{inl, inr}
use Rattle.std.proofs.lemmas.Result.{err_from_is_err_and}
use Rattle.nbt_admin.proofs.running.run.Goals as goal

pub returns-in_ok-hold-in-Host-clause-done : goal.returns-in_ok-hold-in-Host-clause-done
returns-in_ok-hold-in-Host-clause-done g c = rw c.in-Host.is (c.in_ok-host-in-Host.host, c.in_ok-host-in-Host.ensures, c.in_ok-hold-in-Host.ensures.done)

pub returns-in_err-host-in-Host-clause-failure : goal.returns-in_err-host-in-Host-clause-failure
returns-in_err-host-in-Host-clause-failure g c =
    let p = err_from_is_err_and c.from_residual-in_err-host-in-Host.result c.from_residual-in_err-host-in-Host.ensures.1 in
    rw (p.1, p.2, c.in-Host.is) (inr (inl c.in_err-host-in-Host.ensures))

pub returns-in_ok-release-in-Release-clause-done : goal.returns-in_ok-release-in-Release-clause-done
returns-in_ok-release-in-Release-clause-done g c = rw c.in-Release.is (c.in_ok-host-in-Release.host, c.in_ok-host-in-Release.ensures, c.in_ok-release-in-Release.ensures.done)

pub returns-in_err-host-in-Release-clause-failure : goal.returns-in_err-host-in-Release-clause-failure
returns-in_err-host-in-Release-clause-failure g c =
    let p = err_from_is_err_and c.from_residual-in_err-host-in-Release.result c.from_residual-in_err-host-in-Release.ensures.1 in
    rw (p.1, p.2, c.in-Release.is) (inr (inl c.in_err-host-in-Release.ensures))

pub returns-in_ok-scan-in-Scan-clause-done : goal.returns-in_ok-scan-in-Scan-clause-done
returns-in_ok-scan-in-Scan-clause-done g c = rw c.in-Scan.is (c.in_ok-arguments-in-Scan.arguments, c.in_ok-arguments-in-Scan.ensures.reads, c.in_ok-scan-in-Scan.ensures.done)

pub returns-in_err-serve-in-Nbns-clause-failure : goal.returns-in_err-serve-in-Nbns-clause-failure
returns-in_err-serve-in-Nbns-clause-failure g c =
    let p = err_from_is_err_and c.from_residual-in_err-serve-in-Nbns.result c.from_residual-in_err-serve-in-Nbns.ensures.1 in
    rw (p.1, p.2) (inl tt)

pub returns-in_err-read_front-in-Nbns-clause-failure : goal.returns-in_err-read_front-in-Nbns-clause-failure
returns-in_err-read_front-in-Nbns-clause-failure g c =
    let p = err_from_is_err_and c.from_residual-in_err-read_front-in-Nbns.result c.from_residual-in_err-read_front-in-Nbns.ensures.1 in
    rw (p.1, p.2, c.in-Nbns.is) (elim c.in_err-read_front-in-Nbns.ensures.failure [
      | inl is ↦ inl is
      | inr fails ↦ inr (inr fails)
    ])
