use Rattle.nbt_session.specs.declared.caller.CallerState.TheVariants.{Connecting}
use Rattle.nbt_session.specs.declared.caller.Failure.TheVariants.{NoConnection}
use Rattle.nbt_session.specs.Event.{lost}
use Rattle.nbt_session.specs.Packet.{packet_of}
use Rattle.nbt_session.specs.Caller.{connects, is_not_connected, is_not_connected_at_last, is_spoken_to_unasked}
use Rattle.nbt_session.proofs.Calls.{tries_next}
use Rattle.nbt_session.proofs.caller.connecting.Goals as goal
use Rattle.nbt_session.proofs.caller.connecting.Goals.{in-Connected, in-Packet, in-Lost}

pub returns-clause-moves : goal.returns-clause-moves
returns-clause-moves c =
    elim c.match-event.branch [
      | in-Connected w ↦ rw (w.result-is, w.in-Connected.is, w.copy.ensures, w.copy-in-Connected.ensures) (connects c.args.to c.args.tries)
      | in-Packet w ↦ rw (w.result-is, w.in-Packet.is, w.failed.ensures.state, w.failed.ensures.answer) (is_spoken_to_unasked c.args.to c.args.tries (packet_of w.in-Packet.field-0))
      | in-Lost w ↦ rw (w.result-is, w.in-Lost.is)
          (tries_next (Connecting c.args.to) lost c.args.to NoConnection (is_not_connected c.args.to) (is_not_connected_at_last c.args.to) c.args.tries _ _ c.requires (record { more = w.next_try.ensures.more; last = w.next_try.ensures.last }))
    ]
