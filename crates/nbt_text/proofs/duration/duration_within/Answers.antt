use Rattle.std.proofs.Common.{◌≤◌, refl}
use Rattle.nbt_text.specs.Times.{SpellsTime}
use Rattle.nbt_text.proofs.Taking.{both, neither}
use Rattle.nbt_text.proofs.duration.duration_within.Goals as goal

pub returns-in-Some-clause-read : goal.returns-in-Some-clause-read
returns-in-Some-clause-read c = both (SpellsTime c.args.text.now) (λ n. (c.args.least ≤ n) × (n ≤ c.args.most)) c.in-Some.time c.between.result
    (rw (← c.as_bytes.ensures.value) ((c.in-Some.ensures c.in-Some.time).0 refl)) c.between.ensures.found c.between.ensures.value

pub returns-in-Some-clause-none : goal.returns-in-Some-clause-none
returns-in-Some-clause-none c = neither (SpellsTime c.args.text.now) (λ n. (c.args.least ≤ n) × (n ≤ c.args.most)) c.in-Some.time c.between.result
    (λ n spelled.
    let time : SpellsTime c.as_bytes.result.now n = rw c.as_bytes.ensures.value spelled in
    let one = (c.in-Some.ensures n).1 time in
    cc)
    c.between.ensures.found

pub returns-in-None-clause-none : goal.returns-in-None-clause-none
returns-in-None-clause-none c = λ n taken.
    let time : SpellsTime c.as_bytes.result.now n = rw c.as_bytes.ensures.value taken.0 in
    let one = (c.in-None.ensures n).1 time in
    absurd cc
