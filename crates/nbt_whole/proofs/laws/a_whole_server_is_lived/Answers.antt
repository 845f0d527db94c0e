use Rattle.nbt_whole.proofs.Whole.{nbns_are_lived, failed_nbns_are_lived, kept_are_lived, failed_kept_are_lived}
use Rattle.nbt_whole.proofs.laws.a_whole_server_is_lived.Goals as goal

pub returns-clause-bare : goal.returns-clause-bare
returns-clause-bare c = nbns_are_lived

pub returns-clause-bare_failed : goal.returns-clause-bare_failed
returns-clause-bare_failed c = failed_nbns_are_lived

pub returns-clause-kept : goal.returns-clause-kept
returns-clause-kept c = kept_are_lived c.a_server_lives_over_any_number_of_crashes.ensures.begins

pub returns-clause-kept_failed : goal.returns-clause-kept_failed
returns-clause-kept_failed c = failed_kept_are_lived c.a_server_lives_over_any_number_of_crashes.ensures.begins
