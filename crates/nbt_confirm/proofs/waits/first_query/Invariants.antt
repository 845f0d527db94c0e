use Rattle.std.proofs.Common.{map, take}
use Rattle.nbt_confirm.specs.Waiting.{IsFirst}
use Rattle.nbt_confirm.proofs.waits.first_query.Given as goal

abbrev pub invariant-loop-one : goal.invariant-loop-one
invariant-loop-one l = IsFirst (map (λ p. p.due) (take l.one-index l.pending)) l.first
