-- What time alone makes of a name's state (our profile).
use Rattle.std.specs.Prelude.{ℕ, ◌+◌, nat_lt, nat_le, if◌then◌else◌, Option, Some, None}
use Rattle.nbt_lease.specs.Drift.{quiet}
use Rattle.nbt_node.specs.declared.state.State.{State}
use Rattle.nbt_node.specs.declared.state.State.TheVariants.{Idle, Asking, Held, Releasing, Resting}
use Rattle.nbt_node.specs.declared.transaction.Transaction.{Transaction}
use Rattle.nbt_node.specs.Transaction.{is_over}

-- a name rests from the last sending about it, until more than the quiet time of this life has passed
abbrev pub rested : (life now last : ℕ) → State
rested life now last = if nat_lt (last + quiet life) now then Idle else Resting last

abbrev pub pending_at : (now : ℕ) → Option Transaction → Option Transaction
pending_at now None = None
pending_at now (Some r) = if is_over now r.tries r.due then None else Some r

-- the state once time alone has done its part
abbrev pub settled : (life now : ℕ) → State → State
settled life now Idle = Idle
settled life now (Asking kind ttl last p) = if is_over now p.tries p.due then rested life now last else Asking kind ttl last p
settled life now (Held kind ttl until renew last pending) = if nat_le until now then rested life now last else Held kind ttl until renew last (pending_at now pending)
settled life now (Releasing kind last p) = if is_over now p.tries p.due then rested life now last else Releasing kind last p
settled life now (Resting last) = rested life now last
