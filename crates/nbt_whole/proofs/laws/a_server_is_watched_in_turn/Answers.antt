use Rattle.nbt_whole.proofs.Overall.{nbns_are_watched, failed_nbns_are_watched, kept_are_watched, failed_kept_are_watched}
use Rattle.nbt_whole.proofs.laws.a_server_is_watched_in_turn.Goals as goal

pub returns-clause-bare : goal.returns-clause-bare
returns-clause-bare c = nbns_are_watched

pub returns-clause-bare_failed : goal.returns-clause-bare_failed
returns-clause-bare_failed c = failed_nbns_are_watched

pub returns-clause-kept : goal.returns-clause-kept
returns-clause-kept c = kept_are_watched

pub returns-clause-kept_failed : goal.returns-clause-kept_failed
returns-clause-kept_failed c = failed_kept_are_watched
