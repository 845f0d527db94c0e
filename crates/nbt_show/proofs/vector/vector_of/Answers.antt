use Rattle.nbt_show.specs.Verdicts.{vector}
use Rattle.nbt_show.proofs.Vectors.{no_vector, nothing_spelled, two_and_more}
use Rattle.nbt_show.proofs.vector.vector_of.Goals as goal

pub returns-in_default-expected_of : goal.returns-in_default-expected_of
returns-in_default-expected_of c = λ octets e.
    no_vector _ _ _ _ octets e c.service_of.result (two_and_more c.args.words.now c.in-len2-up.len_at_least) c.service_of.ensures
    (nothing_spelled _ e c.service_of.result c.in-Some.service c.expected_of.result c.in-Some.is (c.expected_of.ensures e) c.in_default-expected_of.is)

pub returns-in-Some-2 : goal.returns-in-Some-2
returns-in-Some-2 c =
    let octets = rw c.in-Some-2.is at c.in_ok-octets.ensures in
    let service = (c.service_of.ensures c.in-Some.service).0 c.in-Some.is in
    rw (two_and_more c.args.words.now c.in-len2-up.len_at_least, service)
    (vector c.in-Some.service _ _ _ _ octets ((c.expected_of.ensures c.in-Some-expected_of.expected).0 c.in-Some-expected_of.is))
