use Rattle.std.proofs.Common.{arith}
use Rattle.nbt_world.proofs.laws.bound_lasts_over_a_pause.Goals as goal

pub returns : goal.returns
returns c true_then read_then true_now read_now pause true_later read_later early long late = record {
  ahead = let before = early.ahead in let after = late.ahead in omega (arith, before, after, long);
  back = let before = early.back in let after = late.back in omega (arith, before, after, long);
}
