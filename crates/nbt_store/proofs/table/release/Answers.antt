use Rattle.nbt_store.proofs.Members.{none_goes, some_goes}
use Rattle.nbt_store.proofs.table.release.Goals as goal

pub returns-in-Some-clause-members : goal.returns-in-Some-clause-members
returns-in-Some-clause-members c = some_goes c.args.members.now.entries c.release_in.new.members.entries c.args.name.now c.args.addr c.in-Some.ensures.members

pub returns-in-None-clause-members : goal.returns-in-None-clause-members
returns-in-None-clause-members c = none_goes c.args.members.now.entries c.release_in.new.members.entries c.args.name.now c.args.addr c.in-None.ensures.new c.in-None.ensures.left
