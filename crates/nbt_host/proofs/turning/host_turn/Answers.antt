use Rattle.std.proofs.lemmas.Result.{err_from_is_err_and, on_ok_weaker, on_err_weaker}
use Rattle.nbt_host.specs.Hosting.{Terms}
use Rattle.nbt_host.specs.Releasing.{Releasing}
use Rattle.nbt_host.proofs.Listening.{is_woken}
use Rattle.nbt_host.proofs.Turns.{broke_at_requests, broke_at_polls, broke_at_listening, turned}
use Rattle.nbt_host.proofs.turning.host_turn.Goals as goal

pub returns-in_err-request_all-clause-err : goal.returns-in_err-request_all-clause-err
returns-in_err-request_all-clause-err g c =
    let p = err_from_is_err_and c.from_residual.result c.from_residual.ensures.1 in
    let a = c.args in
    let t : Terms = record { slots = g.row.N; server = a.server; config = a.config } in
    let old : Releasing g.row.P.Denot g.row.K.Denot = record { port = a.port.now; watch = a.watch.now; last = a.last.now; host = record { goals = a.goals.now; node = a.node.now } } in
    rw p.1 (broke_at_requests g.P.Port.does g.K.Watch.looks t old c.wake.result c.wake.new.watch c.wake.new.goals c.wake.new.node c.see_all.new.goals
    (is_woken t c.wake.result old.host c.wake.new.goals c.wake.new.node c.wake.ensures.goals c.wake.ensures.node) c.see_all.ensures c.wake.ensures.looks
    c.request_all.new.port c.request_all.new.node c.in_err-request_all.ensures.err)

pub returns-in_err-poll_all-clause-err : goal.returns-in_err-poll_all-clause-err
returns-in_err-poll_all-clause-err g c =
    let p = err_from_is_err_and c.from_residual-in_err-poll_all.result c.from_residual-in_err-poll_all.ensures.1 in
    let a = c.args in
    let t : Terms = record { slots = g.row.N; server = a.server; config = a.config } in
    let old : Releasing g.row.P.Denot g.row.K.Denot = record { port = a.port.now; watch = a.watch.now; last = a.last.now; host = record { goals = a.goals.now; node = a.node.now } } in
    rw p.1 (broke_at_polls g.P.Port.does g.K.Watch.looks t old c.wake.result c.wake.new.watch c.wake.new.goals c.wake.new.node c.see_all.new.goals
    (is_woken t c.wake.result old.host c.wake.new.goals c.wake.new.node c.wake.ensures.goals c.wake.ensures.node) c.see_all.ensures c.wake.ensures.looks
    c.request_all.new.port c.poll_all.new.port c.request_all.new.node c.poll_all.new.node c.in_ok-request_all.ensures.ok c.in_err-poll_all.ensures.err)

pub returns-clause-ok : goal.returns-clause-ok
returns-clause-ok g c =
    let a = c.args in
    let t : Terms = record { slots = g.row.N; server = a.server; config = a.config } in
    let old : Releasing g.row.P.Denot g.row.K.Denot = record { port = a.port.now; watch = a.watch.now; last = a.last.now; host = record { goals = a.goals.now; node = a.node.now } } in
    let l = c.listen in
    on_ok_weaker l.result
    (turned g.P.Port.does g.K.Watch.looks t old c.wake.result c.wake.new.watch c.wake.new.goals c.wake.new.node c.see_all.new.goals
    (is_woken t c.wake.result old.host c.wake.new.goals c.wake.new.node c.wake.ensures.goals c.wake.ensures.node) c.see_all.ensures c.wake.ensures.looks
    c.request_all.new.port c.poll_all.new.port c.request_all.new.node c.poll_all.new.node (record { port = l.new.port; watch = l.new.watch; last = l.new.last; host = record { goals = l.new.goals; node = l.new.node } })
    c.in_ok-request_all.ensures.ok c.in_ok-poll_all.ensures.ok)
    l.ensures.ok

pub returns-clause-err : goal.returns-clause-err
returns-clause-err g c =
    let a = c.args in
    let t : Terms = record { slots = g.row.N; server = a.server; config = a.config } in
    let old : Releasing g.row.P.Denot g.row.K.Denot = record { port = a.port.now; watch = a.watch.now; last = a.last.now; host = record { goals = a.goals.now; node = a.node.now } } in
    let l = c.listen in
    on_err_weaker l.result
    (broke_at_listening g.P.Port.does g.K.Watch.looks t old c.wake.result c.wake.new.watch c.wake.new.goals c.wake.new.node c.see_all.new.goals
    (is_woken t c.wake.result old.host c.wake.new.goals c.wake.new.node c.wake.ensures.goals c.wake.ensures.node) c.see_all.ensures c.wake.ensures.looks
    c.request_all.new.port c.poll_all.new.port c.request_all.new.node c.poll_all.new.node (record { port = l.new.port; watch = l.new.watch; last = l.new.last; host = record { goals = l.new.goals; node = l.new.node } })
    c.in_ok-request_all.ensures.ok c.in_ok-poll_all.ensures.ok)
    l.ensures.err
