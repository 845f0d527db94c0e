use Rattle.std.proofs.Common.{Some, None, sym, subst, ◌∙◌}
use Rattle.std.specs.List.{flat_map}
use Rattle.nbt_packet.specs.Message.{status}
use Rattle.nbt_node.specs.Node.{NodeValue}
use Rattle.nbt_packet.specs.Spelling.{AreWritten}
use Rattle.nbt_node.specs.Datagrams.{listed, names_listed, lists_names, lists_nothing}
use Rattle.nbt_node.proofs.node.Node.list_names.Goals as goal

pub returns-then-not-is_listed_for : goal.returns-then-not-is_listed_for
returns-then-not-is_listed_for g c =
    (None, lists_nothing c.settle.new.self (sym c.if-not-is_listed_for.ensures) c.settle.ensures.node, c.requires.empty)

pub returns : goal.returns
returns g c = (
  Some (status c.args.id c.args.name.now (names_listed c.args.self.now c.args.now c.args.name.now)),
  lists_names c.settle.new.self (sym c.if-not-is_listed_for.ensures) c.settle.ensures.node,
  subst (λ (n : NodeValue). AreWritten (Some (status c.args.id c.args.name.now (flat_map (listed c.args.name.now.scope) n.slots))) c.write_listed.new.out.items) (c.self.view_is ∙ c.settle.ensures.node) c.write_listed.ensures,
)
