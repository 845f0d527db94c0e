use Rattle.nbt_session.proofs.InParts.{each_call, run_is_stream, fault_is_stream}
use Rattle.nbt_session.proofs.laws.parts_are_the_stream.Goals as goal

pub returns-clause-call : goal.returns-clause-call
returns-clause-call c = each_call

pub returns-clause-packets : goal.returns-clause-packets
returns-clause-packets c = run_is_stream

pub returns-clause-fault : goal.returns-clause-fault
returns-clause-fault c = fault_is_stream c.text_is_read.ensures.no_fault
