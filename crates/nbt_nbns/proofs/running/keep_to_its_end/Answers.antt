use Rattle.std.proofs.lemmas.Result.{on_ok_weaker}
use Rattle.nbt_nbns.proofs.Beginning.{if_err_weaker}
use Rattle.nbt_nbns.proofs.running.keep_to_its_end.Goals as goal

pub returns-clause-ok : goal.returns-clause-ok
returns-clause-ok g c =
    let w = c.keep_renewed-ended in
    on_ok_weaker w.result (λ kept. (w.new.port, kept)) w.ensures.ok

pub returns-clause-err : goal.returns-clause-err
returns-clause-err g c =
    let w = c.keep_renewed-ended in
    if_err_weaker w.result (λ why ended. (w.new.port, ended)) w.ensures.err
