use Rattle.nbt_session.proofs.Streams.{run_is_stream, fault_is_stream}
use Rattle.nbt_session.proofs.laws.cutting_changes_nothing.Goals as goal

pub returns-clause-packets : goal.returns-clause-packets
returns-clause-packets c = run_is_stream

pub returns-clause-fault : goal.returns-clause-fault
returns-clause-fault c = fault_is_stream c.text_is_read.ensures.no_fault
