use Rattle.std.proofs.Common.{◌≡◌, ◌+◌, ◌≤◌, arith}
use Rattle.nbt_store.specs.Silence.{by_new_clock}
use Rattle.nbt_net.specs.Clocks.{counted}
use Rattle.nbt_net.proofs.laws.a_clock_over_another_boot_is_not_ahead.Goals as goal

pub returns-clause-not_ahead : goal.returns-clause-not_ahead
returns-clause-not_ahead c h times seen true_then read_then true_now read_now pause true_later read_later last was long after kept =
    let onward = by_new_clock h times seen in
    let begins : onward.reads ≡ times.last + onward.shift = c.a_new_clock_begins_at_the_last_time.ensures.last h times seen in
    c.a_clock_that_stood_is_not_ahead.ensures.stood true_then (counted onward read_then) true_now (counted onward read_now) pause onward.reads true_later read_later (omega (arith, was)) (omega (arith, begins, last, long)) after kept

pub returns-clause-later : goal.returns-clause-later
returns-clause-later c h times seen read_now true_early read_early true_later read_later after kept =
    c.a_clock_that_stood_is_not_ahead.ensures.later (counted (by_new_clock h times seen) read_now) true_early read_early true_later read_later after kept

pub returns-clause-onward : goal.returns-clause-onward
returns-clause-onward c h times seen read_now read_early read_later after = c.a_clock_that_stood_is_not_ahead.ensures.onward (counted (by_new_clock h times seen) read_now) read_early read_later after

pub returns-clause-served : goal.returns-clause-served
returns-clause-served c h times seen read_now read_later early after =
    let onward = by_new_clock h times seen in
    let past : read_now + onward.shift ≤ onward.serves = c.a_new_clock_begins_at_the_last_time.ensures.served h times seen read_now early in
    (past, omega (arith, past, after))
