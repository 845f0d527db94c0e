use Rattle.nbt_packet.proofs.Common.{err_from_is_err_and, cut, great}
use Rattle.nbt_packet.proofs.decoding.count.Goals as goal

pub returns-in_err-count-clause-fault : goal.returns-in_err-count-clause-fault
returns-in_err-count-clause-fault c =
    let p = err_from_is_err_and c.from_residual.result c.from_residual.ensures.1 in
    rw (p.1, p.2, c.in_err-count.ensures.cut.1) (cut c.in_err-count.ensures.cut.0)

pub returns-then-count-most-clause-fault : goal.returns-then-count-most-clause-fault
returns-then-count-most-clause-fault c = great c.in_ok-count.ensures.word.0 (rw c.in_ok-count.ensures.word.1 at c.if-count-most.true)
