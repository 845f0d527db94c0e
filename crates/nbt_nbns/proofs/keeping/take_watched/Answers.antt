use Rattle.nbt_nbns.proofs.Stayed.{came_to}
use Rattle.nbt_nbns.proofs.keeping.take_watched.Goals as goal

pub returns-clause-takes : goal.returns-clause-takes
returns-clause-takes g c =
    let t = c.turn_and_moment in
    came_to g.P.Port.does g.P.Port.failures g.S.Store.does g.C.Clock.tells g.D.Clock.tells g.V.Watcher.sees c.args.until.now c.after_turn.result _ _ c.show.new.state t.new.shown
    (record { turn_clock = c.in-Ok.ensures.ok.0; sent = c.in-Ok.sent; turned = t.new.state; turn = c.in-Ok.ensures.ok.1; now_told = c.in-Ok.ensures.ok.2; failures_are = c.in-Ok.ensures.ok.3; seen = c.show.ensures.seen }) c.after_turn.ensures.comes
