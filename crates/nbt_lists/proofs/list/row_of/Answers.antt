use Rattle.nbt_lists.specs.Rows.{spells}
use Rattle.nbt_lists.proofs.list.row_of.Goals as goal

pub returns : goal.returns
returns c =
    spells c.args.name.now c.args.kind.now c.args.addr.now c.args.end.now _ c.in-Ok.ensures.name c.in-Some-Some.ensures.found c.in-Some-Some.ensures'.found
    (rw c.in-Some.is at c.in_ok-end.ensures)
