use Rattle.std.proofs.Common.{arith, refl}
use Rattle.nbt_packet.proofs.Common.{err_from_is_err_and, question_name, question_cut}
use Rattle.nbt_packet.proofs.decoding.question_at.Goals as goal

pub returns-in_err-name-clause-fault : goal.returns-in_err-name-clause-fault
returns-in_err-name-clause-fault c =
    let p = err_from_is_err_and c.from_residual.result c.from_residual.ensures.1 in
    rw (p.1, p.2) (question_name c.in_err-name.field-0.0 ((c.in_err-name.ensures.fault c.in_err-name.field-0.0).0 refl))

pub returns-then-octets-named-lt4-clause-fault : goal.returns-then-octets-named-lt4-clause-fault
returns-then-octets-named-lt4-clause-fault c =
    rw c.short_of.ensures (question_cut c.in_ok-name.name c.in_ok-name.named ((c.in_ok-name.ensures.name c.in_ok-name.name c.in_ok-name.named).0 refl) (omega (arith, c.in_ok-name.ensures.within)))
