use Rattle.std.specs.Prelude.{◌++◌}
use Rattle.nbt_packet.specs.Text.{text}
use Rattle.nbt_serve.proofs.SambaOthers.{comes_as_it_is}
use Rattle.nbt_serve.proofs.laws.other_messages_come_as_they_are.Goals as goal

pub returns-clause-spelled : goal.returns-clause-spelled
returns-clause-spelled c = λ octets message s other. comes_as_it_is octets message (c.one_message_spelled.ensures octets) s other

pub returns-clause-written : goal.returns-clause-written
returns-clause-written c = λ message rest holds fits other. comes_as_it_is (text message ++ rest) message (c.one_message_spelled.ensures (text message ++ rest)) (c.written_form_is_read.ensures.spells message rest holds fits) other
