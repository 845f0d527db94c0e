use Rattle.std.proofs.lemmas.Result.{on_ok_weaker, on_err_weaker}
use Rattle.nbt_host.specs.Hosting.{Terms}
use Rattle.nbt_host.specs.Releasing.{Releasing, Ended, Broken}
use Rattle.nbt_host.proofs.Releases.{leaves_all}
use Rattle.nbt_host.proofs.releasing.give_back.Goals as goal

pub returns-clause-ok : goal.returns-clause-ok
returns-clause-ok g c =
    let t : Terms = record { slots = g.row.N; server = c.args.server; config = c.args.config } in
    let old : Releasing g.row.P.Denot g.row.K.Denot = record { port = c.args.port.now; watch = c.args.watch.now; last = c.args.last.now; host = record { goals = c.args.goals.now; node = c.args.node.now } } in
    on_ok_weaker c.wait.result
    (leaves_all g.K.Clock.tells (λ limit left end. Ended g.P.Port.does g.K.Clock.tells g.K.Watch.looks t limit c.args.most left end) old (record { port = c.wait.new.port; watch = c.wait.new.watch; last = c.wait.new.last; host = record { goals = c.wait.new.goals; node = c.wait.new.node } })
    c.now.new.self c.leave_all.new.goals c.now.result c.get-limit.result c.now.ensures c.leave_all.ensures c.get-limit.ensures.value)
    c.wait.ensures.ok

pub returns-clause-err : goal.returns-clause-err
returns-clause-err g c =
    let t : Terms = record { slots = g.row.N; server = c.args.server; config = c.args.config } in
    let old : Releasing g.row.P.Denot g.row.K.Denot = record { port = c.args.port.now; watch = c.args.watch.now; last = c.args.last.now; host = record { goals = c.args.goals.now; node = c.args.node.now } } in
    on_err_weaker c.wait.result
    (leaves_all g.K.Clock.tells (λ limit left end. Broken g.P.Port.does g.K.Clock.tells g.K.Watch.looks t limit c.args.most left end) old (record { port = c.wait.new.port; watch = c.wait.new.watch; last = c.wait.new.last; host = record { goals = c.wait.new.goals; node = c.wait.new.node } })
    c.now.new.self c.leave_all.new.goals c.now.result c.get-limit.result c.now.ensures c.leave_all.ensures c.get-limit.ensures.value)
    c.wait.ensures.err
