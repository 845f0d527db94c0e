use Rattle.nbt_waits.proofs.leases.first_lease.Goals as goal

pub returns-clause-sound : goal.returns-clause-sound
returns-clause-sound c = c.members.ensures.sound c.args.name.now
