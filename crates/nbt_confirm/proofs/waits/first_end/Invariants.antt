use Rattle.std.proofs.Common.{ℕ, List, ◌++◌, take}
use Rattle.std.specs.List.{flat_map}
use Rattle.nbt_confirm.specs.Waiting.{IsFirst, end_in}
use Rattle.nbt_confirm.proofs.waits.first_end.Given as goal

abbrev pub invariant-loop-request : goal.invariant-loop-request
invariant-loop-request l = (times : List ℕ) → IsFirst times l.fn.time → IsFirst (times ++ flat_map (λ r. end_in r.awaits) (take l.request-index l.requests)) l.first
