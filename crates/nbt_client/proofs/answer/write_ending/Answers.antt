use Rattle.std.proofs.lemmas.Result.{IfOk-weaker}
use Rattle.nbt_client.specs.Answers.{silence, tells_silence, tells_refusal}
use Rattle.nbt_client.proofs.answer.write_ending.Goals as goal

pub returns-in-NoReply : goal.returns-in-NoReply
returns-in-NoReply c =
    IfOk-weaker c.write_silence.result _ _ (λ answer said. (silence, rw (c.in-NoReply.is, said.0) (tells_silence c.args.octets.now), said.1)) c.write_silence.ensures

pub returns-in-Refused : goal.returns-in-Refused
returns-in-Refused c =
    IfOk-weaker c.write_silence-in-Refused.result _ _ (λ answer said. (silence, rw (c.in-Refused.is, said.0) (tells_refusal c.args.octets.now c.in-Refused.field-0), said.1)) c.write_silence-in-Refused.ensures
