use Rattle.std.proofs.Common.{◌≡◌, Some, refl, ap, subst, ◌∙◌}
use Rattle.nbt_packet.specs.Message.{MessageValue, message_of}
use Rattle.nbt_packet.specs.Spelling.{AreWritten}
use Rattle.nbt_node.specs.declared.lookup.Lookup.{Lookup}
use Rattle.nbt_node.specs.Node.{NodeValue}
use Rattle.nbt_node.specs.Transaction.{next_due}
use Rattle.nbt_node.specs.Moves.{id_after}
use Rattle.nbt_node.specs.Calls.{question}
use Rattle.nbt_node.proofs.Moving.{looks_up}
use Rattle.nbt_node.proofs.node.Node.look_up.Goals as goal

pub returns : goal.returns
returns g c =
    let old : NodeValue = c.args.self.now in
    let opened : Lookup = record { id = old.next_id; name = c.args.name.now; to = c.args.to; wanted = c.args.wanted; tries = 1; due = next_due c.args.now } in
    let mid_is = c.self.view_is ∙ c.settle.ensures.node in
    let id_is : c.self.inside.next_id ≡ old.next_id = ap (λ (n : NodeValue). n.next_id) mid_is in
    let asked : message_of c.question.result ≡ question opened = c.question.ensures.value ∙ rw (c.to_name.ensures, id_is) refl in
    record {
      opens = looks_up old _ _ c.args.now (Some opened) (id_after old.next_id) mid_is (rw (c.to_name.ensures, c.next_due.ensures, c.id_after-self-inside.ensures, id_is) refl);
      written = subst (λ (m : MessageValue). AreWritten (Some m) c.write.new.out.items) asked c.write.ensures;
    }
