use Rattle.nbt_session.specs.Packet.{packet_of}
use Rattle.nbt_session.specs.Caller.{is_open_already, ends, gets_a_message, stays_alive, gets_what_has_no_place}
use Rattle.nbt_session.proofs.Calls.{no_message, no_keep_alive}
use Rattle.nbt_session.proofs.caller.open.Goals as goal

pub returns-in-Connected-clause-moves : goal.returns-in-Connected-clause-moves
returns-in-Connected-clause-moves c = λ called calling. rw c.in-Connected.is is_open_already

pub returns-in-Lost-clause-moves : goal.returns-in-Lost-clause-moves
returns-in-Lost-clause-moves c = λ called calling. rw c.in-Lost.is ends

pub returns-in-Message-clause-moves : goal.returns-in-Message-clause-moves
returns-in-Message-clause-moves c = λ called calling. rw (c.in-Packet.is, c.in-Message.is) (gets_a_message c.in-Message.octets.items)

pub returns-in-KeepAlive-clause-moves : goal.returns-in-KeepAlive-clause-moves
returns-in-KeepAlive-clause-moves c = λ called calling. rw (c.in-Packet.is, c.in-KeepAlive.is) stays_alive

pub returns-in_default-clause-moves : goal.returns-in_default-clause-moves
returns-in_default-clause-moves c = λ called calling.
    rw (c.in-Packet.is, c.failed.ensures.state, c.failed.ensures.answer)
    (gets_what_has_no_place (packet_of c.in-Packet.packet) (no_message c.in-Packet.packet c.in_default.not-Message) (no_keep_alive c.in-Packet.packet c.in_default.not-KeepAlive))
