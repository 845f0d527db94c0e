use Rattle.std.proofs.lemmas.Result.{err_from_is_err_and}
use Rattle.nbt_host.proofs.releasing.end_turn.Goals as goal

pub returns-clause-ok : goal.returns-clause-ok
returns-clause-ok g c =
    let x = c.in_ok-host_turn.ensures.ok in
    (c.now-now.result, (x.0, x.1, c.host_turn.new.watch, x.2, x.3, x.4, x.5, c.now-now.ensures), c.goes_on.ensures)

pub returns-in_err-host_turn-clause-err : goal.returns-in_err-host_turn-clause-err
returns-in_err-host_turn-clause-err g c =
    let p = err_from_is_err_and c.from_residual.result c.from_residual.ensures.1 in
    rw p.1 c.in_err-host_turn.ensures.err
