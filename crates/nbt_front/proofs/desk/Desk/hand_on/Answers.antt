use Rattle.std.proofs.Common.{rules, tests}
use Rattle.std.proofs.lemmas.List.{nil_from_length}
use Rattle.nbt_port.specs.PortCalls.{came}
use Rattle.nbt_front.specs.Standing.{leaves_none, takes_out}
use Rattle.nbt_front.proofs.Passing.{came_leaves}
use Rattle.nbt_front.proofs.desk.Desk.hand_on.Goals as goal

pub returns-then-is_empty-clause-left : goal.returns-then-is_empty-clause-left
returns-then-is_empty-clause-left g c = rw (← c.self.view_is) (leaves_none (came c.args.from c.args.octets.now) (nil_from_length c.self.inside.kept.items (search (rules, tests))))

pub returns-in-Some-clause-left : goal.returns-in-Some-clause-left
returns-in-Some-clause-left g c = rw (c.take_out.ensures, ← c.self.view_is) (takes_out c.args.from c.args.octets.now c.in-Some.name c.in-Some.ensures.found)

pub returns-in_default-clause-left : goal.returns-in_default-clause-left
returns-in_default-clause-left g c = came_leaves c.args.self.now.kept c.args.from c.args.octets.now c.in_default.ensures.none
