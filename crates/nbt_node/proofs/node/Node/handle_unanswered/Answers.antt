use Rattle.std.proofs.Common.{Option, None, refl, subst}
use Rattle.nbt_packet.specs.declared.message.Message.{Message}
use Rattle.nbt_packet.specs.Message.{message_of, message_if}
use Rattle.nbt_node.specs.Datagrams.{Says, spelled, unspelled}
use Rattle.nbt_node.specs.Moves.{told_of}
use Rattle.nbt_node.proofs.node.Node.handle_unanswered.Goals as goal

pub returns-in-Some-clause-ok : goal.returns-in-Some-clause-ok
returns-in-Some-clause-ok g c = λ octets says. record {
  sent = None;
  takes = spelled (message_of c.in-Some.message) c.take.new.self None (told_of c.take.result) (subst (λ (m : Option Message). Says octets (message_if m)) c.in-Some.is says) c.take.ensures;
  written = refl;
}

pub returns-in-None-clause-ok : goal.returns-in-None-clause-ok
returns-in-None-clause-ok g c = λ octets says. record {
  sent = None;
  takes = unspelled c.settle.new.self (subst (λ (m : Option Message). Says octets (message_if m)) c.in-None.is says) c.settle.ensures.node;
  written = refl;
}
