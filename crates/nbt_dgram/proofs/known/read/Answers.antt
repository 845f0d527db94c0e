use Rattle.std.proofs.Common.{take}
use Rattle.nbt_dgram.proofs.Marks.{no_gap}
use Rattle.nbt_dgram.proofs.known.read.Goals as goal

pub returns-in_default-clause-gap : goal.returns-in_default-clause-gap
returns-in_default-clause-gap c = λ _ payload same. no_gap payload (take c.args.end c.args.known.now) c.loop-octet.octet-index same c.loop-octet-test.true c.in_default.is
