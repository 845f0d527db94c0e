use Rattle.std.proofs.lemmas.Result.{err_from_is_err_and}
use Rattle.nbt_nbns.proofs.Beginning.{not_told}
use Rattle.nbt_nbns.proofs.resuming.tell_begin.Goals as goal

pub returns-in_err-print_begin-clause-err : goal.returns-in_err-print_begin-clause-err
returns-in_err-print_begin-clause-err g c =
    let p = err_from_is_err_and c.from_residual-in_err-print_begin.result c.from_residual-in_err-print_begin.ensures.1 in
    rw p.1 (not_told _ _ _ (rw p.2 c.in_err-print_begin.ensures.err))
