use Rattle.std.proofs.Common.{rules}
use Rattle.nbt_nbns.proofs.journal.JournalWatcher.see.Goals as goal

pub returns : goal.returns
returns g c = record {
  day_followed = c.follow_day.ensures;
  logs = search rules;
  tally_is = search rules;
  origin_is = search rules;
  leases_kept = search rules;
  fixed_are = search rules;
  hosts_kept = search rules;
  stats_kept = search rules;
}
