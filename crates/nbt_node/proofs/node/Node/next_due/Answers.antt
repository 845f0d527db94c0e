use Rattle.std.proofs.Common.{map}
use Rattle.std.specs.Prelude.{is_some}
use Rattle.nbt_node.specs.Node.{settled_slot, settled_lookup}
use Rattle.nbt_node.specs.Calls.{first_due, due_lookup}
use Rattle.nbt_node.proofs.node.Node.next_due.Goals as goal

pub returns : goal.returns
returns g c =
    let node = c.self.inside in let life = node.config.life in
    rw (← c.self.view_is)
    (c.earlier.ensures (λ now. is_some (first_due life now (map (settled_slot life now) node.slots))) (λ now. is_some (due_lookup now (settled_lookup now node.lookup))) node.last c.slots_next_due.ensures c.lookup_next_due.ensures)
