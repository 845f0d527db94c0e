use Rattle.nbt_waits.proofs.Machines.{further_is}
use Rattle.nbt_waits.proofs.settling.further_in.Goals as goal

pub returns : goal.returns
returns c = further_is c.args.machine.now c.args.addr c.further.result c.further.ensures.found c.further.ensures.further c.further.ensures.addr
