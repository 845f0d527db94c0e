use Rattle.std.proofs.Common.{arith}
use Rattle.nbt_lease.proofs.laws.drift_bound_of_moves.Goals as goal

pub returns : goal.returns
returns c true_then read_then passed moved =
    (λ bound. record { ahead = omega (arith, bound.ahead); back = omega (arith, bound.back) }, λ bound. record { ahead = omega (arith, bound.ahead); back = omega (arith, bound.back) })
