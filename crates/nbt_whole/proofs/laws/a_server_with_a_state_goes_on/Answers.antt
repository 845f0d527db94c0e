use Rattle.nbt_whole.proofs.Onwards.{kept_go_on, failed_kept_go_on}
use Rattle.nbt_whole.proofs.laws.a_server_with_a_state_goes_on.Goals as goal

pub returns-clause-kept : goal.returns-clause-kept
returns-clause-kept c = kept_go_on c.a_start_finds_the_file_that_was_written.ensures.next c.a_start_finds_the_file_that_was_written.ensures.opening c.a_whole_server_is_lived.ensures.kept

pub returns-clause-kept_failed : goal.returns-clause-kept_failed
returns-clause-kept_failed c = failed_kept_go_on c.a_start_finds_the_file_that_was_written.ensures.next c.a_start_finds_the_file_that_was_written.ensures.opening c.a_whole_server_is_lived.ensures.kept_failed
