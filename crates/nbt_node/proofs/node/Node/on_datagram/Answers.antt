use Rattle.std.proofs.lemmas.Result.{IfOk-weaker}
use Rattle.nbt_node.specs.declared.event.Event.{Event}
use Rattle.nbt_node.specs.Datagrams.{Handles, Says}
use Rattle.nbt_node.specs.Moves.{told_of}
use Rattle.std.specs.Prelude.{List, ℕ}
use Rattle.nbt_packet.specs.Message.{message_if}
use Rattle.nbt_node.proofs.Reading.{says_read}
use Rattle.nbt_node.proofs.node.Node.on_datagram.Goals as goal

pub returns-clause-ok : goal.returns-clause-ok
returns-clause-ok g c =
    IfOk-weaker c.handle.result (λ (event : Event). (octets : List ℕ) → Says octets (message_if c.read-message.result) → Handles c.args.self.now c.args.now c.args.from octets c.handle.new.self (told_of event) c.handle.new.out.items)
    (λ (event : Event). Handles c.args.self.now c.args.now c.args.from c.args.octets.now c.handle.new.self (told_of event) c.handle.new.out.items)
    (λ (event : Event) handles. handles c.args.octets.now (says_read c.read-message.result c.args.octets.now c.read-message.ensures)) c.handle.ensures.ok
