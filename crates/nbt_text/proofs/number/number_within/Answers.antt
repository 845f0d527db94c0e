use Rattle.std.proofs.Common.{◌≤◌, refl}
use Rattle.nbt_text.specs.Number.{SpellsNumber}
use Rattle.nbt_text.proofs.Taking.{both, neither}
use Rattle.nbt_text.proofs.number.number_within.Goals as goal

pub returns-in-Some-clause-read : goal.returns-in-Some-clause-read
returns-in-Some-clause-read c = both (SpellsNumber c.args.text.now) (λ n. (c.args.least ≤ n) × (n ≤ c.args.most)) c.in-Some.number c.between.result
    (rw (← c.as_bytes.ensures.value) ((c.in-Some.ensures c.in-Some.number).0 refl)) c.between.ensures.found c.between.ensures.value

pub returns-in-Some-clause-none : goal.returns-in-Some-clause-none
returns-in-Some-clause-none c = neither (SpellsNumber c.args.text.now) (λ n. (c.args.least ≤ n) × (n ≤ c.args.most)) c.in-Some.number c.between.result
    (λ n spelled.
    let number : SpellsNumber c.as_bytes.result.now n = rw c.as_bytes.ensures.value spelled in
    let one = (c.in-Some.ensures n).1 number in
    cc)
    c.between.ensures.found

pub returns-in-None-clause-none : goal.returns-in-None-clause-none
returns-in-None-clause-none c = λ n taken.
    let number : SpellsNumber c.as_bytes.result.now n = rw c.as_bytes.ensures.value taken.0 in
    let one = (c.in-None.ensures n).1 number in
    absurd cc
