use Rattle.nbt_packet.proofs.Written.{status_is}
use Rattle.nbt_packet.proofs.writing.put_status.Goals as goal

pub returns-clause-ok : goal.returns-clause-ok
returns-clause-ok c =
    let named = rw c.unwrap.ensures at c.try_extend_from_slice.ensures.ok in
    let all = rw c.unwrap-2.ensures at c.try_extend_from_slice-2.ensures.ok in
    status_is c.args.id c.args.name.now c.args.names.now c.put_answer_head.new.out.items c.push.new.self.items c.try_extend_from_slice.new.self.items c.try_extend_from_slice-2.new.self.items
    c.put_answer_head.ensures.form c.push.ensures.items named all
