use Rattle.nbt_show.proofs.Vectors.{no_place, name_fault, dgram_fault, nothing}
use Rattle.nbt_show.proofs.vector.expected_fault.Goals as goal

pub returns-in_err-place : goal.returns-in_err-place
returns-in_err-place c = λ e. nothing c.from_residual.result e _ c.from_residual.ensures (no_place _ _ _ c.place_of.result e c.place_of.ensures c.in_err-place.was)

pub returns-in_ok-kind-in-Name : goal.returns-in_ok-kind-in-Name
returns-in_ok-kind-in-Name c = λ e.
    name_fault _ _ _ c.from_word.result c.place_of.result c.in_ok-kind-in-Name.kind c.in_ok-place.place e c.in-Name.is
    c.from_word.ensures c.in_ok-kind-in-Name.was c.place_of.ensures c.in_ok-place.was

pub returns-in_ok-kind-in-Dgram : goal.returns-in_ok-kind-in-Dgram
returns-in_ok-kind-in-Dgram c = λ e.
    dgram_fault _ _ _ c.from_word-in-Dgram.result c.place_of.result c.in_ok-kind-in-Dgram.kind c.in_ok-place.place e c.in-Dgram.is
    c.from_word-in-Dgram.ensures c.in_ok-kind-in-Dgram.was c.place_of.ensures c.in_ok-place.was
