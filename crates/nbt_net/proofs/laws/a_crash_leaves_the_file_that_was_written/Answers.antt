use Rattle.nbt_net.proofs.HeadersLeft.{crash_within_an_opening, leaves_the_file}
use Rattle.nbt_net.proofs.laws.a_crash_leaves_the_file_that_was_written.Goals as goal

pub returns-clause-left : goal.returns-clause-left
returns-clause-left c = leaves_the_file c.a_crash_of_the_disk_leaves_what_calls_may_leave.ensures.between c.a_crash_of_the_disk_leaves_what_calls_may_leave.ensures.within

pub returns-clause-opening : goal.returns-clause-opening
returns-clause-opening c = crash_within_an_opening
