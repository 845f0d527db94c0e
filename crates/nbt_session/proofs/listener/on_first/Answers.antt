use Rattle.nbt_session.specs.Packet.{packet_of}
use Rattle.nbt_session.specs.Listener.{is_called, waits_on, gets_no_request}
use Rattle.nbt_session.proofs.Calls.{no_keep_alive, no_request}
use Rattle.nbt_session.proofs.listener.on_first.Goals as goal

pub returns-in-Request : goal.returns-in-Request
returns-in-Request c = λ holds listed tells are. rw c.in-Request.is (is_called c.in-Request.called c.in-Request.calling _ _ (c.on_call.ensures holds listed (rw c.in-Request.is at tells) are))

pub returns-in-KeepAlive : goal.returns-in-KeepAlive
returns-in-KeepAlive c = λ holds listed tells are. rw c.in-KeepAlive.is waits_on

pub returns-in_default : goal.returns-in_default
returns-in_default c = λ holds listed tells are.
    rw (c.refused.ensures.slot, c.refused.ensures.answer)
    (gets_no_request (packet_of c.args.first.now) (no_request c.args.first.now c.in_default.not-Request) (no_keep_alive c.args.first.now c.in_default.not-KeepAlive))
