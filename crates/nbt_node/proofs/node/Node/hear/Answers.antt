use Rattle.nbt_node.proofs.Moving.{ignored, heard}
use Rattle.nbt_node.proofs.node.Node.hear.Goals as goal

pub returns-then-not-is_same_end : goal.returns-then-not-is_same_end
returns-then-not-is_same_end g c = λ message move.
    ignored c.args.self.now _ c.settle.new.self c.args.now c.args.from c.args.name.now message c.self.view_is c.if-not-is_same_end.ensures c.settle.ensures.node

pub returns : goal.returns
returns g c = λ message move.
    heard c.args.self.now _ c.change.new.self c.args.now c.args.from c.args.name.now message c.self.view_is c.if-not-is_same_end.ensures _ _ move c.change.ensures.node
