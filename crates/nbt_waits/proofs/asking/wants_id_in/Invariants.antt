use Rattle.std.proofs.Common.{◌≡◌, drop}
use Rattle.nbt_confirm.specs.Waiting.{next_to_ask}
use Rattle.nbt_waits.proofs.asking.wants_id_in.Given as goal

abbrev pub invariant-loop-request : goal.invariant-loop-request
invariant-loop-request l = next_to_ask (record { requests = drop l.request-index l.requests; pending = l.pending }) ≡ next_to_ask (record { requests = l.requests; pending = l.pending })
