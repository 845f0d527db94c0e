use Rattle.std.proofs.Common.{◌≡◌, rules}
use Rattle.std.specs.Vec.{with_items}
use Rattle.std.proofs.lemmas.List.{with_items_is}
use Rattle.std.proofs.lemmas.Result.{on_ok_weaker, on_err_weaker}
use Rattle.nbt_host.specs.Host.{HostingValue}
use Rattle.nbt_host.specs.Hosting.{HostValue, HostTurn, HostBreaks}
use Rattle.nbt_host.proofs.OneTurn.{went_through}
use Rattle.nbt_host.proofs.host.Host.turn.Goals as goal

pub returns-clause-ok : goal.returns-clause-ok
returns-clause-ok g c =
    let had = c.self.inside in
    let n = c.noted_turn-turned in
    let old : HostingValue g.row.K.Denot = record { watch = had.watch; last = had.last; asked = had.asked; host = record { goals = had.goals.items; node = had.node } } in
    let new : HostValue = record { goals = n.new.goals; node = n.new.node } in
    let back : (with_items had.goals n.new.goals).items ≡ n.new.goals = with_items_is had.goals n.new.goals (search rules) in
    let given = rw c.as_mut_slice.ensures.value at n.ensures.ok in
    rw (← c.self.view_is, back) (on_ok_weaker n.result.1
    (went_through g.P.Port.does g.K.Watch.looks c.args.arguments.now c.args.port.now n.new.port old n.new.watch n.new.last new n.result.0 c.after_turn-self-inside.result HostTurn c.after_turn-self-inside.ensures) given)

pub returns-clause-err : goal.returns-clause-err
returns-clause-err g c =
    let had = c.self.inside in
    let n = c.noted_turn-turned in
    let old : HostingValue g.row.K.Denot = record { watch = had.watch; last = had.last; asked = had.asked; host = record { goals = had.goals.items; node = had.node } } in
    let new : HostValue = record { goals = n.new.goals; node = n.new.node } in
    let back : (with_items had.goals n.new.goals).items ≡ n.new.goals = with_items_is had.goals n.new.goals (search rules) in
    let given = rw c.as_mut_slice.ensures.value at n.ensures.err in
    rw (← c.self.view_is, back) (on_err_weaker n.result.1
    (went_through g.P.Port.does g.K.Watch.looks c.args.arguments.now c.args.port.now n.new.port old n.new.watch n.new.last new n.result.0 c.after_turn-self-inside.result HostBreaks c.after_turn-self-inside.ensures) given)
