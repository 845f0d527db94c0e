use Rattle.nbt_port.specs.Memory.{values_of}
use Rattle.nbt_port.proofs.Remembering.{did_send, did_fail_to_send, did_not_keep}
use Rattle.nbt_port.proofs.memory.MemoryPortPort.send.Goals as goal

pub returns-then-is_to_fail-clause-does : goal.returns-then-is_to_fail-clause-does
returns-then-is_to_fail-clause-does c =
    let p = c.self.inside in
    let h = c.if-is_to_fail.ensures in
    did_fail_to_send c.args.self.now p.incoming.items (values_of p.sent.items) p.failures c.one_more-self-inside.result p.fails_after c.is_to_fail.new.fails_after c.args.to c.args.octets.now c.self.view_is c.one_more-self-inside.ensures h.0 h.1

pub returns-in-Ok-clause-does : goal.returns-in-Ok-clause-does
returns-in-Ok-clause-does c =
    let p = c.self.inside in
    let h = c.if-is_to_fail.ensures in
    did_send c.args.self.now p.incoming.items (values_of p.sent.items) (values_of c.keep.new.sent.items) p.failures p.fails_after c.is_to_fail.new.fails_after c.args.to c.args.octets.now c.self.view_is h.0 h.1 c.in-Ok.ensures.ok

pub returns-in-Err-clause-does : goal.returns-in-Err-clause-does
returns-in-Err-clause-does c =
    let p = c.self.inside in
    let h = c.if-is_to_fail.ensures in
    did_not_keep c.args.self.now p.incoming.items (values_of p.sent.items) (values_of c.keep.new.sent.items) p.failures c.one_more-self-inside-in-Err.result p.fails_after c.is_to_fail.new.fails_after c.args.to c.args.octets.now c.self.view_is c.one_more-self-inside-in-Err.ensures h.0 h.1 c.in-Err.ensures.err
