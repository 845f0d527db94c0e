use Rattle.std.proofs.Common.{refl}
use Rattle.std.proofs.lemmas.Result.{err_from_is_err_and, on_ok_weaker}
use Rattle.nbt_nbns.proofs.Beginning.{if_err_weaker}
use Rattle.nbt_nbns.proofs.Checks.{checked_new, for_clock, for_files, not_said}
use Rattle.nbt_nbns.proofs.checking.check_new.Goals as goal

pub returns-clause-ok : goal.returns-clause-ok
returns-clause-ok g c =
    let told = c.now-start.ensures in
    on_ok_weaker c.print_check.result (λ said. checked_new c.args.arguments.now c.in_ok-clock.clock c.now-start.result c.in_ok-day.day c.now.result c.manner_at_first-manner.result _ _ said.0
    c.in_ok-clock.ensures.ok
    (record { reading = told.reading; shown = told.shown; moment_is = told.moment_is; never_back = told.never_back; keeps = refl })
    (refl, c.now.ensures.1) (rw (← c.longest.ensures.value) c.manner_at_first-manner.ensures) said.1 said.2) c.print_check.ensures.ok

pub returns-clause-err : goal.returns-clause-err
returns-clause-err g c = if_err_weaker c.print_check.result (λ why is. not_said _ _ why is) c.print_check.ensures.err

pub returns-in_err-clock-clause-err : goal.returns-in_err-clock-clause-err
returns-in_err-clock-clause-err g c =
    let p = err_from_is_err_and c.from_residual.result c.from_residual.ensures.1 in
    rw p.1 (for_clock _ _ (rw p.2 c.in_err-clock.ensures.err))

pub returns-in_err-day-clause-err : goal.returns-in_err-day-clause-err
returns-in_err-day-clause-err g c =
    let p = err_from_is_err_and c.from_residual-in_err-day.result c.from_residual-in_err-day.ensures.1 in
    rw p.1 (for_clock _ _ (rw p.2 c.in_err-day.ensures.err))

pub returns-in_err-journal_of-clause-err : goal.returns-in_err-journal_of-clause-err
returns-in_err-journal_of-clause-err g c =
    let p = err_from_is_err_and c.from_residual-in_err-journal_of.result c.from_residual-in_err-journal_of.ensures.1 in
    rw p.1 (for_files _ _ (rw p.2 c.in_err-journal_of.ensures.err))
