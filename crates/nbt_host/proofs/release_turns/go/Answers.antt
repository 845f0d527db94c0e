use Rattle.std.proofs.lemmas.Result.{on_ok_weaker, on_err_weaker}
use Rattle.nbt_host.specs.ReleaseTurns.{Releasing}
use Rattle.nbt_host.proofs.Passing.{went_on, lost_at_receive}
use Rattle.nbt_host.proofs.release_turns.go.Goals as goal

pub returns-clause-ok : goal.returns-clause-ok
returns-clause-ok g c =
    let a : Releasing g.row.P.Denot = record { port = c.args.port.now; releases = c.args.releases.now } in
    let b : Releasing g.row.P.Denot = record { port = c.send_due.new.port; releases = c.send_due.new.releases } in
    let d : Releasing g.row.P.Denot = record { port = c.hear.new.port; releases = c.hear.new.releases } in
    on_ok_weaker c.hear.result (went_on g.P.Port.does c.args.server c.args.own c.args.now a b d c.in_ok-send_due.ensures.ok c.in_ok-send_due.ensures.all) c.hear.ensures.ok

pub returns-clause-err : goal.returns-clause-err
returns-clause-err g c =
    let a : Releasing g.row.P.Denot = record { port = c.args.port.now; releases = c.args.releases.now } in
    let b : Releasing g.row.P.Denot = record { port = c.send_due.new.port; releases = c.send_due.new.releases } in
    on_err_weaker c.hear.result (lost_at_receive g.P.Port.does c.args.server c.args.own c.args.now a b c.hear.new.port c.hear.new.releases c.in_ok-send_due.ensures.ok c.in_ok-send_due.ensures.all) c.hear.ensures.err
