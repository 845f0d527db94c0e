use Rattle.std.proofs.Common.{subst, sym}
use Rattle.nbt_text.specs.SuffixedNames.{IsSuffix, in_characters, in_digits, bad_digits, bad_front, bad_suffix}
use Rattle.nbt_text.proofs.suffixed_reading.octets_of.Goals as goal

pub returns-in-Some-sixteen_of-clause-octets : goal.returns-in-Some-sixteen_of-clause-octets
returns-in-Some-sixteen_of-clause-octets c =
    let read = c.in-Some-sixteen_of.ensures.read in in_digits c.in-Some.digits.now c.in-Some.ensures.digits read.0 read.1

pub returns-in-None-clause-fault : goal.returns-in-None-clause-fault
returns-in-None-clause-fault c = bad_digits c.in-Some.digits.now c.in-Some.ensures.digits c.in-None.ensures.none

pub returns-in-Err-clause-fault : goal.returns-in-Err-clause-fault
returns-in-Err-clause-fault c = bad_front c.cut.result.0.now c.cut.result.1.now c.in-Err.fault c.in_default.ensures.none c.cut.ensures c.in-Err.ensures.err

pub returns-in-Some-suffix_of-clause-octets : goal.returns-in-Some-suffix_of-clause-octets
returns-in-Some-suffix_of-clause-octets c =
    in_characters c.cut.result.0.now c.cut.result.1.now c.in-Some-suffix_of.suffix c.in_default.ensures.none c.cut.ensures c.in_default-check_front.ensures.ok
    (subst (λ usual. IsSuffix usual c.cut.result.1.now c.in-Some-suffix_of.suffix) c.blank.ensures c.in-Some-suffix_of.ensures.read) c.filled.ensures

pub returns-in-None-suffix_of-clause-fault : goal.returns-in-None-suffix_of-clause-fault
returns-in-None-suffix_of-clause-fault c =
    bad_suffix c.cut.result.0.now c.cut.result.1.now c.in_default.ensures.none c.cut.ensures c.in_default-check_front.ensures.ok
    (λ suffix is. c.in-None-suffix_of.ensures.none suffix (subst (λ usual. IsSuffix usual c.cut.result.1.now suffix) (sym c.blank.ensures) is))
