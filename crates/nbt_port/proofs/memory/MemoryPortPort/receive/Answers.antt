use Rattle.nbt_port.specs.Memory.{values_of}
use Rattle.nbt_port.proofs.Remembering.{did_receive, did_fail_to_receive}
use Rattle.nbt_port.proofs.memory.MemoryPortPort.receive.Goals as goal

pub returns-then-is_to_fail-clause-does : goal.returns-then-is_to_fail-clause-does
returns-then-is_to_fail-clause-does c =
    let p = c.self.inside in
    let h = c.if-is_to_fail.ensures in
    did_fail_to_receive c.args.self.now p.incoming.items (values_of p.sent.items) p.failures c.one_more-self-inside.result p.fails_after c.is_to_fail.new.fails_after c.self.view_is c.one_more-self-inside.ensures h.0 h.1

pub returns-clause-does : goal.returns-clause-does
returns-clause-does c =
    let p = c.self.inside in
    let h = c.if-is_to_fail.ensures in
    did_receive c.args.self.now p.incoming.items c.hand_out.new.incoming.items (values_of p.sent.items) p.failures p.fails_after c.is_to_fail.new.fails_after c.hand_out.result c.hand_out.new.octets.items c.self.view_is h.0 h.1 c.hand_out.ensures
