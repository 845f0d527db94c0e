use Rattle.std.proofs.lemmas.Result.{err_from_is_err_and}
use Rattle.nbt_host.proofs.OneTurn.{takes_turn, breaks_turn, turned_so}
use Rattle.nbt_host.proofs.host.Host.go.Goals as goal

pub returns-in_err-tell_turn-clause-err : goal.returns-in_err-tell_turn-clause-err
returns-in_err-tell_turn-clause-err g c =
    let p = err_from_is_err_and c.from_residual.result c.from_residual.ensures.1 in
    let t = c.turn-turned in
    let s = c.shown-shown in
    let cut = c.in_err-tell_turn.ensures.err in
    rw (p.1, p.2) (
      cut.0,
      (
        s.result,
        cut.1,
        turned_so g.P.Port.does g.K.Clock.tells g.K.Watch.looks c.args.arguments.now c.args.port.now t.new.port c.args.self.now t.new.self s.new.self s.result s.ensures.told s.ensures.slept s.ensures.rest t.result t.ensures.ok t.ensures.err,
      ),
    )

pub returns-in-Ok-clause-ok : goal.returns-in-Ok-clause-ok
returns-in-Ok-clause-ok g c =
    let t = c.turn-turned in
    let s = c.shown-shown in (
      s.new.self,
      takes_turn g.P.Port.does g.K.Clock.tells g.K.Watch.looks c.args.arguments.now c.args.port.now t.new.port c.args.self.now t.new.self s.new.self s.result s.ensures.told s.ensures.slept s.ensures.rest c.in-Ok.ensures.ok,
      c.in_ok-tell_turn.ensures.ok,
      c.move_on.ensures,
    )

pub returns-in-Err-clause-ok : goal.returns-in-Err-clause-ok
returns-in-Err-clause-ok g c =
    let t = c.turn-turned in
    let s = c.shown-shown in (
      s.result,
      s.new.self,
      breaks_turn g.P.Port.does g.K.Clock.tells g.K.Watch.looks c.args.arguments.now c.args.port.now t.new.port c.args.self.now t.new.self s.new.self s.result s.ensures.told s.ensures.slept s.ensures.rest c.in-Err.ensures.err,
      c.in_ok-tell_turn.ensures.ok,
      c.move_on.ensures,
    )
