use Rattle.nbt_session.specs.declared.caller.CallerState.TheVariants.{Waiting}
use Rattle.nbt_session.specs.declared.caller.Failure.TheVariants.{NoConnection, TooManyTries}
use Rattle.nbt_session.specs.Event.{packet, lost}
use Rattle.nbt_session.specs.Packet.{retarget}
use Rattle.nbt_session.specs.Caller.{waits_connected_already, is_cut_off, is_cut_off_at_last, is_taken, is_refused, is_retargeted, is_retargeted_at_last, waits_on, gets_a_message_for_an_answer, gets_a_request_for_an_answer}
use Rattle.nbt_session.proofs.Calls.{tries_next}
use Rattle.nbt_session.proofs.caller.waiting.Goals as goal
use Rattle.nbt_session.proofs.caller.waiting.Goals.{in-Positive, in-Negative, in-Retarget, in-KeepAlive, in-Message, in-Request}

pub returns-in-Connected-clause-moves : goal.returns-in-Connected-clause-moves
returns-in-Connected-clause-moves c = λ called calling. rw c.in-Connected.is (waits_connected_already c.args.to c.args.tries)

pub returns-in-Lost-clause-moves : goal.returns-in-Lost-clause-moves
returns-in-Lost-clause-moves c = λ called calling.
    rw c.in-Lost.is
    (tries_next (Waiting c.args.to) lost c.args.to NoConnection (is_cut_off c.args.to) (is_cut_off_at_last c.args.to) c.args.tries _ _ c.requires (record { more = c.next_try.ensures.more; last = c.next_try.ensures.last }))

pub returns-clause-moves : goal.returns-clause-moves
returns-clause-moves c = λ called calling.
    elim c.match-packet.branch [
      | in-Positive w ↦ rw (w.result-is, c.in-Packet.is, w.in-Positive.is) (is_taken c.args.to c.args.tries)
      | in-Negative w ↦ rw (w.result-is, c.in-Packet.is, w.in-Negative.is, w.failed.ensures.state, w.failed.ensures.answer) (is_refused c.args.to c.args.tries w.in-Negative.code)
      | in-Retarget w ↦ rw (w.result-is, c.in-Packet.is, w.in-Retarget.is)
          (tries_next (Waiting c.args.to) (packet (retarget w.in-Retarget.other)) w.in-Retarget.other TooManyTries (is_retargeted c.args.to w.in-Retarget.other) (is_retargeted_at_last c.args.to w.in-Retarget.other) c.args.tries _ _ c.requires
          (record { more = w.next_try-in-Retarget.ensures.more; last = w.next_try-in-Retarget.ensures.last }))
      | in-KeepAlive w ↦ rw (w.result-is, c.in-Packet.is, w.in-KeepAlive.is) (waits_on c.args.to c.args.tries)
      | in-Message w ↦ rw (w.result-is, c.in-Packet.is, w.in-Message.is, w.failed-in-Message.ensures.state, w.failed-in-Message.ensures.answer) (gets_a_message_for_an_answer c.args.to c.args.tries _)
      | in-Request w ↦ rw (w.result-is, c.in-Packet.is, w.in-Request.is, w.failed-in-Request.ensures.state, w.failed-in-Request.ensures.answer) (gets_a_request_for_an_answer c.args.to c.args.tries _ _)
    ]
