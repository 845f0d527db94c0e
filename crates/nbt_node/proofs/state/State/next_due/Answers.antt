use Rattle.nbt_node.proofs.FirstTimes.{held_first, held_never}
use Rattle.nbt_node.proofs.state.State.next_due.Goals as goal

pub returns-then-refresh-until : goal.returns-then-refresh-until
returns-then-refresh-until c = let h = c.in-Held in let r = c.next_refresh-refresh in
    rw h.is (held_first c.args.config.life c.args.since h.kind h.ttl h.until h.renew h.last r.result h.pending (r.ensures.due h.kind h.ttl h.until) r.ensures.later c.if-refresh-until.true)

pub returns-else-refresh-until : goal.returns-else-refresh-until
returns-else-refresh-until c = let h = c.in-Held in let r = c.next_refresh-refresh in
    rw h.is (held_never c.args.config.life c.args.since h.kind h.ttl h.until h.renew h.last r.result h.pending (r.ensures.due h.kind h.ttl h.until) c.if-refresh-until.false)
