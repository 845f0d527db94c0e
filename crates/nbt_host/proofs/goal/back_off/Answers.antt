use Rattle.std.proofs.Common.{arith}
use Rattle.nbt_host.proofs.BackingOff.{five_minutes}
use Rattle.nbt_host.proofs.goal.back_off.Goals as goal

pub returns-in_default-clause-value : goal.returns-in_default-clause-value
returns-in_default-clause-value c = five_minutes c.args.times (omega arith)
