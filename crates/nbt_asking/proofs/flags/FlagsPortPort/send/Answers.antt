use Rattle.nbt_asking.specs.Flags.{sends}
use Rattle.nbt_asking.proofs.flags.FlagsPortPort.send.Goals as goal

pub returns-clause-does : goal.returns-clause-does
returns-clause-does g c = rw (← c.self.view_is) (sends c.send.result c.args.to c.args.octets.now c.send.new.self c.send.ensures.does)
