use Rattle.std.proofs.Common.{◌≡◌, ◌∙◌, length, refl, ap, rules}
use Rattle.std.proofs.lemmas.Result.{err_from_is_err_and}
use Rattle.nbt_lease.specs.Lease.{Rows}
use Rattle.nbt_front.specs.Standing.{in_the_way}
use Rattle.nbt_serve.specs.Runs.{live_rows}
use Rattle.nbt_nbns.specs.Begin.{manner_of}
use Rattle.nbt_nbns.specs.Servers.{dates_of}
use Rattle.nbt_nbns.proofs.Beginning.{are_read, for_memory, is_kept_at_first}
use Rattle.nbt_nbns.proofs.resuming.start.Goals as goal

pub returns-clause-ok : goal.returns-clause-ok
returns-clause-ok g c =
    let a = c.args.arguments.now in
    let clocks = c.in_ok-clocks.clocks in
    let begun = c.in_ok-begun.begun in
    let opened = c.in_ok-opened.opened in
    let line = c.in_ok-journal.ensures.line in
    let read = c.in_ok-clocks.ensures.ok in
    let counted : c.len-count.result ≡ length opened.rows.items = search rules in
    let here = are_read clocks.steady clocks.told clocks.day read in
    record {
      at = line.0;
      manner = manner_of a.config.longest begun.start begun.server.last (dates_of begun clocks.told.time) (length (live_rows begun.server)) begun.reason;
      line = line.1;
      begins = record {
        finds = record {
          boot = here.boot;
          told = clocks.told;
          day = here.day_before;
          begun = begun;
          clock_begins = here.begins;
          before_told = here.before_told;
          monotonic_told = here.monotonic_told;
          time_told = here.time_told;
          found = c.in_ok-begun.ensures.ok;
          manner_is = refl;
        };
        store = opened.store;
        opened = c.in_ok-opened.ensures.store;
        first_is = is_kept_at_first a begun clocks.told.monotonic clocks.told.time opened.store clocks.steady clocks.day c.new-share.result c.in_ok-waiting.waiting c.in_ok-teller.teller c.in_ok-journal.journal c.kept_of-kept.result c.standing_of-standing.result.items _
            read.monotonic_told.keeps read.time_told.0 c.new-share.ensures c.in_ok-waiting.ensures c.in_ok-teller.ensures c.in_ok-journal.ensures.journal c.kept_of-kept.ensures
            (c.standing_of-standing.ensures ∙ ap (λ (rows : Rows). in_the_way a.front.fixed rows) c.in_ok-opened.ensures.rows);
      };
      is_first = rw (← c.in_ok-opened.ensures.rows, ← counted) line.2;
      printed = line.3;
    }

pub returns-in_err-waiting-clause-err : goal.returns-in_err-waiting-clause-err
returns-in_err-waiting-clause-err g c =
    let p = err_from_is_err_and c.from_residual-in_err-waiting.result c.from_residual-in_err-waiting.ensures.1 in
    rw p.1 (for_memory _ _ p.2)

pub returns-in_err-teller-clause-err : goal.returns-in_err-teller-clause-err
returns-in_err-teller-clause-err g c =
    let p = err_from_is_err_and c.from_residual-in_err-teller.result c.from_residual-in_err-teller.ensures.1 in
    rw p.1 (for_memory _ _ p.2)

pub returns-in_err-journal-clause-err : goal.returns-in_err-journal-clause-err
returns-in_err-journal-clause-err g c =
    let p = err_from_is_err_and c.from_residual-in_err-journal.result c.from_residual-in_err-journal.ensures.1 in
    rw (p.1, p.2) c.in_err-journal.ensures.err
