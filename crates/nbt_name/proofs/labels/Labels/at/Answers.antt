use Rattle.nbt_name.proofs.Places.{has_row}
use Rattle.nbt_name.proofs.labels.Labels.at.Goals as goal

pub invariant_of-result : goal.invariant_of-result
invariant_of-result c = has_row c.args.octets.now c.args.place c.requires.stand.0 (record { within = c.requires.within; few = c.requires.stand.1; stand = c.requires.stand.2 })

pub returns : goal.returns
returns c = (has_row c.args.octets.now c.args.place c.requires.stand.0 (record { within = c.requires.within; few = c.requires.stand.1; stand = c.requires.stand.2 })).stand
