use Rattle.std.proofs.Common.{refl, sym, subst}
use Rattle.nbt_server.specs.Calls.{ServerStarts}
use Rattle.nbt_server.specs.Serving.{ServerValue}
use Rattle.nbt_nbns.specs.Begin.{manner_at_first}
use Rattle.nbt_nbns.proofs.Beginning.{is_at_first}
use Rattle.nbt_nbns.proofs.starting.start.Goals as goal

pub returns-clause-ok : goal.returns-clause-ok
returns-clause-ok g c =
    let line = c.in_ok-journal.ensures.line in
    let told = c.now-start.ensures in
    record {
      at = line.0;
      manner = manner_at_first c.args.arguments.now.config.longest (record { moment = c.now-start.result; time = c.now.result });
      line = line.1;
      begins = record {
        boot = c.in_ok-clock.clock;
        start = c.now-start.result;
        day = c.in_ok-day.day;
        time = c.now.result;
        server = c.make_room.new.server;
        clock_begins = c.in_ok-clock.ensures.ok;
        start_told = record { reading = told.reading; shown = told.shown; moment_is = told.moment_is; never_back = told.never_back; keeps = refl };
        time_told = (refl, c.now.ensures.1);
        starts = subst (λ (s : ServerValue). ServerStarts c.args.arguments.now.config c.now-start.result s) (sym c.make_room.ensures) c.start-server.ensures;
        manner_is = refl;
        first_is = is_at_first c.args.arguments.now c.now-start.result c.now-start.new.self c.now.result c.now.new.self c.new.result c.make_room.new.server c.limit_clients.new.self c.in_ok-journal.journal _
            told.keeps c.now.ensures.0 c.new.ensures c.limit_clients.ensures c.in_ok-journal.ensures.journal;
      };
      is_first = line.2;
      printed = line.3;
    }
