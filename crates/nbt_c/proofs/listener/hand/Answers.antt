use Rattle.nbt_c.proofs.Common.{ℕ, refl, subst, holds, event_of, ListenerMoves, above}
use Rattle.nbt_session.specs.Listener.{answer_of, nothing}
use Rattle.nbt_c.specs.Listening as is
use Rattle.nbt_c.proofs.Listened.{IsNoMessage, slot_sends}
use Rattle.nbt_c.proofs.listener.hand.Goals as goal

pub returns-in_default : goal.returns-in_default
returns-in_default c = (nothing, is.ListensFor.has_no_moment (above c.in_default.ensures.found), refl, c.clear.ensures)

pub returns-then-slot-ge-SLOTS : goal.returns-then-slot-ge-SLOTS
returns-then-slot-ge-SLOTS c = (nothing, is.ListensFor.has_no_slot (c.in-Some.ensures.found.0 refl) c.if-slot-ge-SLOTS.true, refl, c.clear.ensures)

pub put_sent-requires-clause-sent : goal.put_sent-requires-clause-sent
put_sent-requires-clause-sent c = λ packet sent. subst IsNoMessage sent (slot_sends _ _ _ _ _ _ _ _ c.on-answer.ensures.moves)

pub put_sent-requires-clause-last : goal.put_sent-requires-clause-last
put_sent-requires-clause-last c = λ packet sent. subst IsNoMessage sent (slot_sends _ _ _ _ _ _ _ _ c.on-answer.ensures.moves)

pub returns-in-Ok : goal.returns-in-Ok
returns-in-Ok c =
    let event = event_of c.in-Ok.event in
    let answer = answer_of c.on-answer.result in
    let moves = subst (λ (now : ℕ). ListenerMoves (λ name. holds c.args.node.now name now) c.args.listener.now c.args.slot event c.on-answer.new.self answer) c.in-Some.ensures.value c.on-answer.ensures in
    (answer, is.ListensFor.moves event answer c.on-answer.new.self (c.in-Some.ensures.found.0 refl) c.if-slot-ge-SLOTS.false c.in-Ok.ensures.event moves, c.kind_of.ensures, c.put_sent.ensures)

pub returns-in-Err : goal.returns-in-Err
returns-in-Err c = (nothing, is.ListensFor.is_refused c.in-Err.number (c.in-Some.ensures.found.0 refl) c.if-slot-ge-SLOTS.false c.in-Err.ensures.fault, refl, c.clear.ensures)
