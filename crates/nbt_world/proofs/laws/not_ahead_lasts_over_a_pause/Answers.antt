use Rattle.std.proofs.Common.{arith}
use Rattle.nbt_world.proofs.laws.not_ahead_lasts_over_a_pause.Goals as goal

pub returns : goal.returns
returns c true_then read_then true_now read_now pause moved true_later read_later early long late = omega (arith, early, late, long)
