use Rattle.std.proofs.lemmas.Result.{err_from_is_err_and}
use Rattle.nbt_admin.proofs.running.check.Goals as goal

pub returns-in_err-host_arguments-in-Host : goal.returns-in_err-host_arguments-in-Host
returns-in_err-host_arguments-in-Host c =
    let p = err_from_is_err_and c.from_residual-in_err-host_arguments-in-Host.result c.from_residual-in_err-host_arguments-in-Host.ensures.1 in
    record { failure = rw (p.1, p.2, c.in-Host.is) c.in_err-host_arguments-in-Host.ensures }

pub returns-in_err-release_arguments-in-Release : goal.returns-in_err-release_arguments-in-Release
returns-in_err-release_arguments-in-Release c =
    let p = err_from_is_err_and c.from_residual-in_err-release_arguments-in-Release.result c.from_residual-in_err-release_arguments-in-Release.ensures.1 in
    record { failure = rw (p.1, p.2, c.in-Release.is) c.in_err-release_arguments-in-Release.ensures }
