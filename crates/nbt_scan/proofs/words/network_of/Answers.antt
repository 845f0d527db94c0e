use Rattle.nbt_scan.proofs.words.network_of.Goals as goal

pub returns-in_default : goal.returns-in_default
returns-in_default c = λ span is. c.in_default.ensures.none is.ip is.ip_is

pub returns-in_default-number_within : goal.returns-in_default-number_within
returns-in_default-number_within c = λ span is. c.in_default-number_within.ensures.none is.bits is.bits_are

pub returns : goal.returns
returns c = record { ip = c.in-Some.ip; bits = c.in-Some-number_within.bits; ip_is = c.in-Some.ensures.found; bits_are = c.in-Some-number_within.ensures.read; first_is = c.span_with.ensures.first; last_is = c.span_with.ensures.last }
