use Rattle.nbt_sim.proofs.instruction.parse_line.Goals as goal

pub returns-in_default : goal.returns-in_default
returns-in_default c = rw c.in_default.is at c.in_ok-words.ensures

pub returns-in-Some-2 : goal.returns-in-Some-2
returns-in-Some-2 c =
    let words = rw c.in-Some.is at c.in_ok-words.ensures in
    (words.0, rw (← words.1, ← c.as_slice.ensures.value) (rw c.in-Some-2.is at c.in_ok-instruction.ensures))

pub returns : goal.returns
returns c =
    let words = rw c.in-Some.is at c.in_ok-words.ensures in
    (words.0, rw (← words.1, ← c.as_slice.ensures.value) (rw c.in-None.is at c.in_ok-instruction.ensures))
