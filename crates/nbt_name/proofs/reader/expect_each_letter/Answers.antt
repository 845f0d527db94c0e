use Rattle.std.proofs.Common.{◌+◌, arith, sym, ltb-true, ltb-false}
use Rattle.nbt_name.proofs.Common.{both_ways, get_or_read, other_octet, octets_end}
use Rattle.nbt_name.proofs.reader.expect_each_letter.Goals as goal

pub returns-in_default-clause-fault : goal.returns-in_default-clause-fault
returns-in_default-clause-fault c =
    rw c.short.ensures (octets_end c.loop-k.k c.loop-k-test.true c.loop-k.invariant.letters (omega (arith, ltb-false _ _ (sym c.in_default.ensures.lookup.0))))

pub returns-then-not-is_letter-clause-fault : goal.returns-then-not-is_letter-clause-fault
returns-then-not-is_letter-clause-fault c =
    let within = ltb-true _ _ (sym c.in-Some.ensures.lookup.0) in
    let read = get_or_read c.args.octets.now (c.args.place + c.loop-k.k) c.in-Some.field-0.now within c.in-Some.ensures.lookup.1 0 in
    other_octet c.loop-k.k c.loop-k-test.true c.loop-k.invariant.letters within
    (λ letter. both_ways c.is_letter.result c.if-not-is_letter.true (c.is_letter.ensures.1 (rw read letter)))
