use Rattle.std.proofs.Common.{sym}
use Rattle.nbt_node.proofs.Places.{own_set, free_changed, none_changed}
use Rattle.nbt_node.proofs.slots.change.Goals as goal

pub returns-in-Some : goal.returns-in-Some
returns-in-Some c = own_set c.args.slots.now c.args.name.now c.args.state.now c.in-Some.place c.index-slots-place.result c.set.new.slot (sym c.in-Some.ensures) c.set.ensures

pub returns-in_default-find_free : goal.returns-in_default-find_free
returns-in_default-find_free c = none_changed c.args.slots.now c.args.name.now c.args.state.now (sym c.in_default.ensures) (sym c.in_default-find_free.ensures)

pub returns : goal.returns
returns c = rw c.begin.ensures (free_changed c.args.slots.now c.args.name.now c.args.state.now c.in-Some-find_free.place (sym c.in_default.ensures) (sym c.in-Some-find_free.ensures))
