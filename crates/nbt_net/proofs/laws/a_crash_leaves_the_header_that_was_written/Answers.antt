use Rattle.nbt_net.proofs.HeadersLeft.{leaves_the_header}
use Rattle.nbt_net.proofs.laws.a_crash_leaves_the_header_that_was_written.Goals as goal

pub returns : goal.returns
returns g c = leaves_the_header g.D.Disk.does c.calls_of_a_store_ask_in_turn.ensures c.a_crash_leaves_the_file_that_was_written.ensures.left
