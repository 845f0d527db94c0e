use Rattle.std.proofs.lemmas.Result.{err_from_is_err_and}
use Rattle.nbt_nbns.proofs.Beginning.{are_read}
use Rattle.nbt_nbns.proofs.Checks.{for_clock, for_files, for_folder, not_said, not_without}
use Rattle.nbt_nbns.proofs.checking.check_kept.Goals as goal

pub returns-clause-ok : goal.returns-clause-ok
returns-clause-ok g c =
    let clocks = c.in_ok-clocks.clocks in
    let begun = c.in_ok-begun.begun in
    let here = are_read clocks.steady clocks.told clocks.day c.in_ok-clocks.ensures.ok in
    let said = c.in_ok-print_check.ensures.ok in
    record {
      manner = c.in_ok-manner.manner;
      line = said.0;
      would = record {
        boot = here.boot;
        told = clocks.told;
        day = here.day_before;
        begun = begun;
        clock_begins = here.begins;
        before_told = here.before_told;
        monotonic_told = here.monotonic_told;
        time_told = here.time_told;
        found = c.in_ok-begun.ensures.ok;
        manner_is = c.in_ok-manner.ensures.ok;
      };
      is_line = said.1;
      printed = said.2;
      no_lock = λ none. not_without c.args.state.now none;
    }

pub returns-in_err-held-clause-err : goal.returns-in_err-held-clause-err
returns-in_err-held-clause-err g c =
    let p = err_from_is_err_and c.from_residual.result c.from_residual.ensures.1 in
    rw p.1 (for_folder _ _ (rw p.2 c.in_err-held.ensures))

pub returns-in_err-clocks-clause-err : goal.returns-in_err-clocks-clause-err
returns-in_err-clocks-clause-err g c =
    let p = err_from_is_err_and c.from_residual-in_err-clocks.result c.from_residual-in_err-clocks.ensures.1 in
    rw p.1 (for_clock _ _ (rw p.2 c.in_err-clocks.ensures.err))

pub returns-in_err-begun-clause-err : goal.returns-in_err-begun-clause-err
returns-in_err-begun-clause-err g c =
    let p = err_from_is_err_and c.from_residual-in_err-begun.result c.from_residual-in_err-begun.ensures.1 in
    rw p.1 (for_folder _ _ (rw p.2 c.in_err-begun.ensures.err))

pub returns-in_err-manner-clause-err : goal.returns-in_err-manner-clause-err
returns-in_err-manner-clause-err g c =
    let p = err_from_is_err_and c.from_residual-in_err-manner.result c.from_residual-in_err-manner.ensures.1 in
    rw p.1 (for_files _ _ (rw p.2 c.in_err-manner.ensures.err))

pub returns-in_err-print_check-clause-err : goal.returns-in_err-print_check-clause-err
returns-in_err-print_check-clause-err g c =
    let p = err_from_is_err_and c.from_residual-in_err-print_check.result c.from_residual-in_err-print_check.ensures.1 in
    rw p.1 (not_said _ _ _ (rw p.2 c.in_err-print_check.ensures.err))
