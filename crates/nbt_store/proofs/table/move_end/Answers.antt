use Rattle.std.proofs.lemmas.Result.{on_ok_weaker}
use Rattle.nbt_store.proofs.Members.{none_moves, some_moves}
use Rattle.nbt_store.proofs.table.move_end.Goals as goal

pub returns-in-Some-clause-members : goal.returns-in-Some-clause-members
returns-in-Some-clause-members c = on_ok_weaker c.in-Some.done (λ h. some_moves c.args.members.now.entries c.move_in.new.members.entries c.args.name.now c.args.addr c.args.end h) c.in-Some.ensures.members

pub returns-in-None-clause-members : goal.returns-in-None-clause-members
returns-in-None-clause-members c = none_moves c.args.members.now.entries c.move_in.new.members.entries c.args.name.now c.args.addr c.args.end c.in-None.ensures.new c.in-None.ensures.left
