-- A listener sends no message.
use Rattle.nbt_c.proofs.Common.{◌≢◌, ℕ, List, Option, NameValue, Entry, Message, EventValue, ListenerAnswerValue, send_and_close, CallMoves, name_is_not_present, SlotMoves, is_called, gets_no_request, type_of}
use Rattle.nbt_name.specs.declared.addr.Kind.{Kind}
use Rattle.nbt_session.specs.declared.listener.Slot.{Slot}
use Rattle.nbt_session.specs.Listener.{send}

-- what is sent is no message
abbrev pub IsNoMessage : ListenerAnswerValue → Type 0
IsNoMessage (send packet) = type_of packet ≢ Message
IsNoMessage (send_and_close packet) = type_of packet ≢ Message
IsNoMessage answer = Unit {0}

call_sends : (holds : NameValue → Option Kind) (entries : List Entry) (most opened : ℕ) (called calling : NameValue) (after : Slot) (answer : ListenerAnswerValue) → CallMoves holds entries most opened called calling after answer → IsNoMessage answer
call_sends holds entries most opened called calling _ _ (name_is_not_present none) = λ e. absurd cc
call_sends holds entries most opened called calling _ _ moves = λ e. absurd cc

pub slot_sends : (holds : NameValue → Option Kind) (entries : List Entry) (most opened : ℕ) (before : Slot) (event : EventValue) (after : Slot) (answer : ListenerAnswerValue) → SlotMoves holds entries most opened before event after answer → IsNoMessage answer
slot_sends holds entries most opened _ _ _ _ (is_called called calling after answer moves) = call_sends holds entries most opened called calling after answer moves
slot_sends holds entries most opened _ _ _ _ (gets_no_request packet other alive) = λ e. absurd cc
slot_sends holds entries most opened _ _ _ _ moves = tt
