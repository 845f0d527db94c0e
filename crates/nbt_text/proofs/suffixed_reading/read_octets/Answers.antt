use Rattle.nbt_text.specs.SuffixedNames.{SpellsOctets, Misspells}
use Rattle.nbt_text.proofs.Deciding.{told_exactly, failed_exactly}
use Rattle.nbt_text.proofs.suffixed_reading.read_octets.Goals as goal

pub returns-clause-octets : goal.returns-clause-octets
returns-clause-octets c =
    let law = c.one_reading.ensures in
    told_exactly (SpellsOctets c.args.case c.args.word.now) (Misspells c.args.word.now) c.octets_of.result c.octets_of.ensures.octets c.octets_of.ensures.fault
    (law.one_spelled c.args.case c.args.word.now) (law.not_both c.args.case c.args.word.now)

pub returns-clause-fault : goal.returns-clause-fault
returns-clause-fault c =
    let law = c.one_reading.ensures in
    failed_exactly (SpellsOctets c.args.case c.args.word.now) (Misspells c.args.word.now) c.octets_of.result c.octets_of.ensures.octets c.octets_of.ensures.fault
    (law.one_fault c.args.word.now) (law.not_both c.args.case c.args.word.now)
