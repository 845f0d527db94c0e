use Rattle.nbt_c.proofs.Common.{event_of}
use Rattle.nbt_session.specs.Caller.{answer_of, nothing}
use Rattle.nbt_c.specs.Calling as is
use Rattle.nbt_c.proofs.Calling.{sends_requests}
use Rattle.nbt_c.proofs.caller.call.Goals as goal

pub put_sent-requires : goal.put_sent-requires
put_sent-requires c = λ packet sent. sends_requests _ _ _ _ _ _ c.on-answer.ensures.moves packet sent

pub returns-in-Ok : goal.returns-in-Ok
returns-in-Ok c = (
  answer_of c.on-answer.result,
  is.CallsFor.calls (event_of c.in-Ok.event) (answer_of c.on-answer.result) c.on-answer.new.self c.in-Ok.ensures.event c.on-answer.ensures.moves c.on-answer.ensures.called c.on-answer.ensures.calling,
  c.report.ensures,
  c.put_sent.ensures,
)

pub returns-in-Err : goal.returns-in-Err
returns-in-Err c = (nothing, is.CallsFor.is_refused c.in-Err.number c.in-Err.ensures.fault, c.report-in-Err.ensures, c.clear.ensures)
