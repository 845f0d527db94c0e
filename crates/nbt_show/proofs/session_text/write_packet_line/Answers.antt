use Rattle.nbt_show.specs.SessionText.{message_line, of_message}
use Rattle.nbt_text.proofs.Joining.{OnOk-map}
use Rattle.nbt_show.proofs.session_text.write_packet_line.Goals as goal

pub returns-in-Message : goal.returns-in-Message
returns-in-Message c = OnOk-map c.write_message_line.result c.write_message_line.ensures (λ e. (
  message_line c.in-Message.octets.now,
  e,
  rw c.in-Message.is (of_message c.in-Message.octets.now),
))
