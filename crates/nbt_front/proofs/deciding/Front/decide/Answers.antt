use Rattle.std.proofs.Common.{rules, tests}
use Rattle.std.proofs.lemmas.List.{nil_from_length}
use Rattle.nbt_packet.specs.Message.{message_of}
use Rattle.nbt_front.specs.Deciding.{desk_at}
use Rattle.nbt_front.proofs.Decided.{decides_nothing}
use Rattle.nbt_front.proofs.Rulings.{at_none, if_some, if_none, none_read, one_read, spelled_by}
use Rattle.nbt_front.proofs.deciding.Front.decide.Goals as goal

pub returns-then-is_empty-clause-passed : goal.returns-then-is_empty-clause-passed
returns-then-is_empty-clause-passed c =
    let open_is = c.is_open.ensures.0 c.if-is_open.true in
    let no_past = nil_from_length c.args.standing.now.past.now (search (rules, tests)) in
    λ m spells. decides_nothing (desk_at c.args.self.now c.args.standing.now) c.args.standing.now.at c.args.from.ip m open_is.0 open_is.1 no_past

pub returns-in_err-message-clause-passed : goal.returns-in_err-message-clause-passed
returns-in_err-message-clause-passed c = at_none c.from_residual.result (none_read (desk_at c.args.self.now c.args.standing.now) c.args.standing.now.at c.args.from.ip c.read.result c.args.octets.now c.read.ensures c.in_err-message.was)

pub returns-clause-decided : goal.returns-clause-decided
returns-clause-decided c =
    if_some c.decide_message.result (λ d h. (message_of c.in_ok-message.message, h.0, spelled_by c.read.result c.args.octets.now c.in_ok-message.message c.read.ensures c.in_ok-message.was, h.1, h.2)) c.decide_message.ensures.decided

pub returns-clause-passed : goal.returns-clause-passed
returns-clause-passed c =
    if_none c.decide_message.result (λ passes. one_read (desk_at c.args.self.now c.args.standing.now) c.args.standing.now.at c.args.from.ip c.read.result c.args.octets.now c.in_ok-message.message c.read.ensures c.in_ok-message.was passes) c.decide_message.ensures.passed
