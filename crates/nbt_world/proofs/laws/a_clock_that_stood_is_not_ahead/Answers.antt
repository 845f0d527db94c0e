use Rattle.std.proofs.Common.{arith}
use Rattle.nbt_world.proofs.laws.a_clock_that_stood_is_not_ahead.Goals as goal

pub returns-clause-stood : goal.returns-clause-stood
returns-clause-stood c true_then read_then true_now read_now pause from true_later read_later was below after kept = omega (arith, was, below, after, kept)

pub returns-clause-later : goal.returns-clause-later
returns-clause-later c read_now true_early read_early true_later read_later after kept = omega (arith, after, kept)

pub returns-clause-onward : goal.returns-clause-onward
returns-clause-onward c read_now read_early read_later after = (omega arith, omega (arith, after))
