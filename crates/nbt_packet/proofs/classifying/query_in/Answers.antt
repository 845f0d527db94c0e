use Rattle.nbt_packet.proofs.Common.{IfErr-weaker, packet_of, asking, finding, denying}
use Rattle.nbt_packet.proofs.Reasons.{is_reason}
use Rattle.nbt_packet.proofs.classifying.query_in.Goals as goal

pub returns-then-is_request-clause-reason : goal.returns-then-is_request-clause-reason
returns-then-is_request-clause-reason c = IfErr-weaker c.question_in.result _ _ (is_reason asking (packet_of c.args.packet.now)) c.question_in.ensures.reason

pub returns-then-rcode-eq0-clause-reason : goal.returns-then-rcode-eq0-clause-reason
returns-then-rcode-eq0-clause-reason c = IfErr-weaker c.finding_in.result _ _ (is_reason finding (packet_of c.args.packet.now)) c.finding_in.ensures.reason

pub returns-clause-reason : goal.returns-clause-reason
returns-clause-reason c = IfErr-weaker c.denial_in.result _ _ (is_reason denying (packet_of c.args.packet.now)) c.denial_in.ensures.reason
