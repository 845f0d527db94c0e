use Rattle.std.proofs.Common.{Option, subst}
use Rattle.nbt_packet.specs.declared.message.Message.{Message}
use Rattle.nbt_packet.specs.Message.{message_of, message_if}
use Rattle.nbt_node.specs.Datagrams.{Says, spelled}
use Rattle.nbt_node.specs.Moves.{told_of}
use Rattle.nbt_node.proofs.node.Node.handle.Goals as goal

pub returns-clause-ok : goal.returns-clause-ok
returns-clause-ok g c = λ octets says. record {
  sent = c.take_request.ensures.0;
  takes = spelled (message_of c.in-Some.message) c.take_request.new.self c.take_request.ensures.0 (told_of c.take_request.result) (subst (λ (m : Option Message). Says octets (message_if m)) c.in-Some.is says) (c.take_request.ensures.1 c.args.from);
  written = c.take_request.ensures.2;
}
