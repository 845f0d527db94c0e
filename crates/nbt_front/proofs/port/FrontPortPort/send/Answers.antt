use Rattle.nbt_port.specs.PortCalls.{sending}
use Rattle.nbt_front.specs.FrontPort.{hands_on}
use Rattle.nbt_front.proofs.Passing.{sent_is_other, sent_leaves}
use Rattle.nbt_front.proofs.port.FrontPortPort.send.Goals as goal

pub returns-clause-does : goal.returns-clause-does
returns-clause-does g c =
    let desk = c.self.inside.desk in
    rw (← c.self.view_is) (hands_on 0 (sending c.args.to c.args.octets.now c.send.result) c.send.new.self desk.kept c.send.ensures.does (sent_is_other desk 0 c.args.to c.args.octets.now c.send.result)
    (sent_leaves desk.kept c.args.to c.args.octets.now c.send.result))
