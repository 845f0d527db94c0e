use Rattle.nbt_net.proofs.Finding.{disk_next_start, finds_left}
use Rattle.nbt_net.proofs.laws.a_start_finds_what_the_disk_kept.Goals as goal

pub returns-clause-found : goal.returns-clause-found
returns-clause-found g c = finds_left g.D.Disk.does c.a_file_has_one_reading.ensures c.a_crash_leaves_the_header_that_was_written.ensures

pub returns-clause-next : goal.returns-clause-next
returns-clause-next g c = disk_next_start g.D.Disk.does c.calls_of_a_store_ask_in_turn.ensures c.a_start_finds_the_file_that_was_written.ensures.next
