use Rattle.nbt_session.specs.Packet.{packet_of}
use Rattle.nbt_session.specs.declared.listener.Slot.TheVariants.{Free}
use Rattle.nbt_session.specs.Listener.{stands, is_lost, is_not_there}
use Rattle.nbt_session.proofs.listener.on_free.Goals as goal
use Rattle.nbt_session.proofs.listener.on_free.Goals.{in-Connected, in-Packet, in-Lost}

pub returns : goal.returns
returns c = λ holds entries most opened.
    elim c.match-event.branch [
      | in-Connected w ↦ rw (w.result-is, w.in-Connected.is) stands
      | in-Packet w ↦ rw (w.result-is, w.in-Packet.is) (is_not_there (packet_of w.in-Packet.field-0))
      | in-Lost w ↦ rw (w.result-is, w.in-Lost.is) (is_lost Free)
    ]
