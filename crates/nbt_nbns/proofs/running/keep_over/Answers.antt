use Rattle.std.proofs.lemmas.Result.{on_ok_weaker}
use Rattle.nbt_nbns.proofs.Beginning.{if_err_weaker}
use Rattle.nbt_nbns.proofs.running.keep_over.Goals as goal

pub returns-then-strict-clause-ok : goal.returns-then-strict-clause-ok
returns-then-strict-clause-ok g c =
    let w = c.keep_to_its_end in
    rw (c.if-strict.true, ← c.new-port.ensures) (on_ok_weaker w.result (λ kept. (kept.0, w.new.started, kept.1)) w.ensures.ok)

pub returns-then-strict-clause-err : goal.returns-then-strict-clause-err
returns-then-strict-clause-err g c =
    let w = c.keep_to_its_end in
    rw (c.if-strict.true, ← c.new-port.ensures) (if_err_weaker w.result (λ why ended. (ended.0, w.new.started, ended.1)) w.ensures.err)

pub returns-clause-ok : goal.returns-clause-ok
returns-clause-ok g c =
    let w = c.keep_to_its_end-else-strict in
    rw (c.if-strict.false, ← c.new.ensures, ← c.new-port-else-strict.ensures) (on_ok_weaker w.result (λ kept. (kept.0, w.new.started, kept.1)) w.ensures.ok)

pub returns-clause-err : goal.returns-clause-err
returns-clause-err g c =
    let w = c.keep_to_its_end-else-strict in
    rw (c.if-strict.false, ← c.new.ensures, ← c.new-port-else-strict.ensures) (if_err_weaker w.result (λ why ended. (ended.0, w.new.started, ended.1)) w.ensures.err)
