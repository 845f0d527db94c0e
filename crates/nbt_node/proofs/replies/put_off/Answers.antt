use Rattle.nbt_node.specs.Moves.{asking_waits, giving_back_waits, refresh_waits}
use Rattle.nbt_node.proofs.replies.put_off.Goals as goal

pub returns-else-pending-id-clause-moved : goal.returns-else-pending-id-clause-moved
returns-else-pending-id-clause-moved c = λ node now t name n later.
    rw (c.in-Asking.is, ← c.if-pending-id.false, c.put_off.ensures, ← later) (asking_waits c.in-Asking.kind c.in-Asking.ttl c.in-Asking.last c.in-Asking.pending n t)

pub returns-else-pending-id-2-clause-moved : goal.returns-else-pending-id-2-clause-moved
returns-else-pending-id-2-clause-moved c = λ node now t name n later.
    rw (c.in-Releasing.is, ← c.if-pending-id-2.false, c.put_off-in-Releasing.ensures, ← later) (giving_back_waits c.in-Releasing.kind c.in-Releasing.last c.in-Releasing.pending n t)

pub returns-else-refresh-id-clause-moved : goal.returns-else-refresh-id-clause-moved
returns-else-refresh-id-clause-moved c = λ node now t name n later.
    rw (c.in-Held.is, c.in-Some.is, ← c.if-refresh-id.false, c.put_off-in-Held.ensures, ← later) (refresh_waits c.in-Held.kind c.in-Held.ttl c.in-Held.until c.in-Held.renew c.in-Held.last c.in-Some.refresh n t)
