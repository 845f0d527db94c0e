use Rattle.nbt_session.specs.Packet.{packet_of}
use Rattle.nbt_session.specs.declared.listener.Slot.TheVariants.{Open}
use Rattle.nbt_session.specs.Listener.{is_open_already, is_lost, gets_a_message, stays_alive, gets_what_has_no_place}
use Rattle.nbt_session.proofs.Calls.{no_message, no_keep_alive}
use Rattle.nbt_session.proofs.listener.on_open.Goals as goal

pub returns-in-Connected : goal.returns-in-Connected
returns-in-Connected c = λ holds entries most opened. rw c.in-Connected.is is_open_already

pub returns-in-Lost : goal.returns-in-Lost
returns-in-Lost c = λ holds entries most opened. rw c.in-Lost.is (is_lost Open)

pub returns-in-Message : goal.returns-in-Message
returns-in-Message c = λ holds entries most opened. rw (c.in-Packet.is, c.in-Message.is) (gets_a_message c.in-Message.octets.items)

pub returns-in-KeepAlive : goal.returns-in-KeepAlive
returns-in-KeepAlive c = λ holds entries most opened. rw (c.in-Packet.is, c.in-KeepAlive.is) stays_alive

pub returns-in_default : goal.returns-in_default
returns-in_default c = λ holds entries most opened.
    rw c.in-Packet.is
    (gets_what_has_no_place (packet_of c.in-Packet.packet) (no_message c.in-Packet.packet c.in_default.not-Message) (no_keep_alive c.in-Packet.packet c.in_default.not-KeepAlive))
