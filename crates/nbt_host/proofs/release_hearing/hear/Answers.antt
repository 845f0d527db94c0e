use Rattle.std.proofs.Common.{refl}
use Rattle.std.proofs.lemmas.Result.{err_from_is_err_and}
use Rattle.nbt_host.proofs.Receiving.{heard}
use Rattle.nbt_host.proofs.release_hearing.hear.Goals as goal

pub returns-in_err-from-clause-err : goal.returns-in_err-from-clause-err
returns-in_err-from-clause-err g c =
    let p = err_from_is_err_and c.from_residual.result c.from_residual.ensures.1 in
    rw p.1 (c.in_err-from.ensures.does, refl)

pub returns-clause-ok : goal.returns-clause-ok
returns-clause-ok g c =
    heard g.P.Port.does c.args.server c.args.port.now c.receive.new.self c.args.releases.now c.take_from.new.releases c.in_ok-from.from c.receive.new.octets.items c.as_slice.result.now
    c.as_slice.ensures.value c.take_from.ensures c.in_ok-from.ensures.does
