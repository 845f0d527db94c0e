use Rattle.nbt_packet.specs.Message.{overwrite}
use Rattle.nbt_server.specs.Serving.{refusal, active_error}
use Rattle.nbt_front.specs.Deciding.{by_overwrite, refuses_overwrite}
use Rattle.nbt_front.proofs.Rulings.{if_some, if_none}
use Rattle.nbt_front.proofs.deciding.Front.overwrite.Goals as goal

pub returns-in-Some-clause-decided : goal.returns-in-Some-clause-decided
returns-in-Some-clause-decided c = (
  refusal active_error c.args.claim,
  rw c.respond-name.ensures.name (refuses_overwrite c.args.claim c.in-Some.field-0.now (rw (← c.self.view_is) (rw c.to_name-name.ensures at c.in-Some.ensures.found))),
  c.respond-name.ensures.written,
)

pub returns-in-None-clause-decided : goal.returns-in-None-clause-decided
returns-in-None-clause-decided c = if_some c.turn_away.result (λ d h. h (overwrite c.args.claim) (by_overwrite c.args.claim)) c.turn_away.ensures.decided

pub returns-in-None-clause-passed : goal.returns-in-None-clause-passed
returns-in-None-clause-passed c = if_none c.turn_away.result (λ h. h (overwrite c.args.claim) (by_overwrite c.args.claim)) c.turn_away.ensures.passed
