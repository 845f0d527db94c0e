use Rattle.nbt_scan.proofs.words.ip_of.Goals as goal

pub returns-in-Err-clause-none : goal.returns-in-Err-clause-none
returns-in-Err-clause-none c = λ ip is. c.in-Err.ensures is.0 (rw c.as_bytes.ensures.value is.1)
