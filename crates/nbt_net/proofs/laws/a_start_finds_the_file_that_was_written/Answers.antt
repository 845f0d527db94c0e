use Rattle.nbt_net.proofs.Finding.{file_next_start, opening_next_start}
use Rattle.nbt_net.proofs.laws.a_start_finds_the_file_that_was_written.Goals as goal

pub returns-clause-next : goal.returns-clause-next
returns-clause-next c =
    file_next_start c.a_file_has_one_reading.ensures c.a_crash_leaves_the_file_that_was_written.ensures.left c.a_server_lives_over_any_number_of_crashes.ensures.begins c.a_server_lives_over_any_number_of_crashes.ensures.next

pub returns-clause-opening : goal.returns-clause-opening
returns-clause-opening c = opening_next_start c.a_crash_leaves_the_file_that_was_written.ensures.opening
    (file_next_start c.a_file_has_one_reading.ensures c.a_crash_leaves_the_file_that_was_written.ensures.left c.a_server_lives_over_any_number_of_crashes.ensures.begins c.a_server_lives_over_any_number_of_crashes.ensures.next)
