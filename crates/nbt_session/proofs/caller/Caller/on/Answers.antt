use Rattle.std.proofs.Common.{subst}
use Rattle.nbt_session.specs.Event.{event_of}
use Rattle.nbt_session.specs.Caller.{CallerValue, CallerMoves, answer_of, stays_closed, stays_failed}
use Rattle.nbt_session.proofs.caller.Caller.on.Goals as goal
use Rattle.nbt_session.proofs.caller.Caller.on.Goals.{in-Connecting, in-Waiting, in-Open, in-Closed, in-Failed}

pub returns-clause-moves : goal.returns-clause-moves
returns-clause-moves c =
    subst (λ (v : CallerValue). CallerMoves v.called v.calling v.state (event_of c.args.event) c.match-self.state.0 (answer_of c.match-self.state.1)) c.self.view_is (
    elim c.match-self.branch [
      | in-Connecting w ↦ rw (w.state-is, w.in-Connecting.is) w.connecting.ensures.moves
      | in-Waiting w ↦ rw (w.state-is, w.in-Waiting.is) (w.waiting.ensures.moves _ _)
      | in-Open w ↦ rw (w.state-is, w.in-Open.is) (w.open.ensures.moves _ _)
      | in-Closed w ↦ rw (w.state-is, w.in-Closed.is) (stays_closed (event_of c.args.event))
      | in-Failed w ↦ rw (w.state-is, w.in-Failed.is) (stays_failed (event_of c.args.event))
    ]
    )
