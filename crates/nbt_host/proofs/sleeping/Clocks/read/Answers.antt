use Rattle.nbt_host.proofs.Ticking.{reads_both}
use Rattle.nbt_host.proofs.sleeping.Clocks.read.Goals as goal

pub returns : goal.returns
returns g c = reads_both g.C.Clock.tells g.D.Clock.tells c.args.self.now c.read_in_order.new.clocks c.read_in_order.result c.read_in_order.ensures
