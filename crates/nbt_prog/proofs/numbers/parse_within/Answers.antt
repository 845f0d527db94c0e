use Rattle.nbt_text.proofs.Taking.{there}
use Rattle.nbt_prog.specs.Network.{SpellsWithin}
use Rattle.nbt_prog.proofs.numbers.parse_within.Goals as goal

pub returns-clause-read : goal.returns-clause-read
returns-clause-read c = rw (c.least.ensures, c.most.ensures) at c.number_within.ensures.read

pub returns-clause-found : goal.returns-clause-found
returns-clause-found c = there (SpellsWithin c.args.limited c.args.text.now) c.number_within.result (rw (c.least.ensures, c.most.ensures) at c.number_within.ensures.none)
