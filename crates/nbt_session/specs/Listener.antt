-- The listener for sessions: RFC 1002 section 5.2.1 and our profile.
use Rattle.std.specs.Prelude.{◌≡◌, ◌≢◌, ℕ, ◌<◌, ◌≤◌, Bool, true, false, not, List, slice_get, slice_set, Option, Some, None, All, Any, count_by}
use Rattle.std.specs.List.{AllWithin, filter}
use Rattle.nbt_name.specs.declared.addr.Addr.{Addr}
use Rattle.nbt_name.specs.declared.addr.Kind.{Kind}
use Rattle.nbt_name.specs.Wire.{NameValue, same_name}
use Rattle.nbt_session.specs.declared.listener.Entry.{Entry}
use Rattle.nbt_session.specs.declared.listener.ListenerAnswer.{ListenerAnswer}
use Rattle.nbt_session.specs.declared.listener.ListenerAnswer.TheVariants as answers
use Rattle.nbt_session.specs.declared.listener.Slot.{Slot}
use Rattle.nbt_session.specs.declared.listener.Slot.TheVariants.{Free, Fresh, Open}
use Rattle.nbt_session.specs.declared.packet.PacketType.TheVariants.{Message, Request, KeepAlive}
use Rattle.nbt_session.specs.Event.{EventValue, connected, packet, lost}
use Rattle.nbt_session.specs.Packet.{PacketValue, message, request, positive, negative, retarget, keep_alive, type_of, packet_of}

-- A listener: its entries in order, its connections, and how many of them may be open.
pub record ListenerValue : Type 0 where
  pub entries : List Entry
  pub slots : List Slot
  pub most : ℕ

pub data ListenerAnswerValue : Type 0 where
  nothing : ListenerAnswerValue
  send : PacketValue → ListenerAnswerValue
  send_and_close : PacketValue → ListenerAnswerValue
  close : ListenerAnswerValue
  up : List ℕ → ListenerAnswerValue

-- without the entries of a name
abbrev pub Without : NameValue → List Entry → List Entry → Type 0
Without called old new = new ≡ filter (λ entry. not (same_name entry.called called)) old

-- how many connections are open
abbrev pub is_open : Slot → Bool
is_open Open = true
is_open slot = false

abbrev pub open_count : List Slot → ℕ
open_count slots = count_by is_open slots

-- an entry accepts a call: it has the called name, and any calling name or that one
abbrev pub IsFor : Option NameValue → NameValue → Type 0
IsFor None calling = Unit {0}
IsFor (Some one) calling = one ≡ calling

abbrev pub TakesCall : Entry → NameValue → NameValue → Type 0
TakesCall entry called calling = (entry.called ≡ called) × IsFor entry.calling calling

-- the first entry that accepts a call
pub record FirstThatTakes (entries : List Entry) (called calling : NameValue) (entry : Entry) : Type 0 where
  pub place : ℕ
  pub stands : slice_get entries place ≡ Some entry
  pub takes : TakesCall entry called calling
  pub before : AllWithin (λ e. ¬ TakesCall e called calling) entries 0 place

-- What is done with a call, where `holds` says which names the node holds: refused by the first reason that applies,
-- in this order; then retargeted; else accepted.
pub data CallMoves (holds : NameValue → Option Kind) (entries : List Entry) (most opened : ℕ) (called calling : NameValue) : Slot → ListenerAnswerValue → Type 0 where
  name_is_not_present : holds called ≡ None → CallMoves holds entries most opened called calling Free (send_and_close (negative 0x82))
  nobody_listens : (kind : Kind) → holds called ≡ Some kind → All (λ e. e.called ≢ called) entries
      → CallMoves holds entries most opened called calling Free (send_and_close (negative 0x80))
  nobody_listens_for_it : (kind : Kind) → holds called ≡ Some kind → Any (λ e. e.called ≡ called) entries
      → All (λ e. ¬ TakesCall e called calling) entries
      → CallMoves holds entries most opened called calling Free (send_and_close (negative 0x81))
  too_many_are_open : (kind : Kind) (entry : Entry) → holds called ≡ Some kind
      → FirstThatTakes entries called calling entry → most ≤ opened
      → CallMoves holds entries most opened called calling Free (send_and_close (negative 0x83))
  goes_elsewhere : (kind : Kind) (entry : Entry) (to : Addr) → holds called ≡ Some kind
      → FirstThatTakes entries called calling entry → opened < most
      → entry.retarget ≡ Some to → CallMoves holds entries most opened called calling Free (send_and_close (retarget to))
  is_taken : (kind : Kind) (entry : Entry) → holds called ≡ Some kind → FirstThatTakes entries called calling entry
      → opened < most
      → entry.retarget ≡ None → CallMoves holds entries most opened called calling Open (send positive)

-- What one connection does: where it stands, what happens, where it stands afterwards, and the answer.
pub data SlotMoves (holds : NameValue → Option Kind) (entries : List Entry) (most opened : ℕ) : Slot → EventValue
    → Slot → ListenerAnswerValue → Type 0 where
  stands : SlotMoves holds entries most opened Free connected Fresh nothing
  is_lost : (slot : Slot) → SlotMoves holds entries most opened slot lost Free nothing
  is_called : (called calling : NameValue) (after : Slot) (answer : ListenerAnswerValue)
      → CallMoves holds entries most opened called calling after answer
      → SlotMoves holds entries most opened Fresh (packet (request called calling)) after answer
  waits_on : SlotMoves holds entries most opened Fresh (packet keep_alive) Fresh nothing
  gets_no_request : (p : PacketValue) → type_of p ≢ Request → type_of p ≢ KeepAlive
      → SlotMoves holds entries most opened Fresh (packet p) Free (send_and_close (negative 0x8F))
  gets_a_message : (octets : List ℕ) → SlotMoves holds entries most opened Open (packet (message octets)) Open (up octets)
  stays_alive : SlotMoves holds entries most opened Open (packet keep_alive) Open nothing
  gets_what_has_no_place : (p : PacketValue) → type_of p ≢ Message → type_of p ≢ KeepAlive
      → SlotMoves holds entries most opened Open (packet p) Free close
  is_not_there : (p : PacketValue) → SlotMoves holds entries most opened Free (packet p) Free nothing
  stands_already : SlotMoves holds entries most opened Fresh connected Fresh nothing
  is_open_already : SlotMoves holds entries most opened Open connected Open nothing

-- A listener moves one connection by that table, and keeps all else.
pub record ListenerMoves (holds : NameValue → Option Kind) (old : ListenerValue) (slot : ℕ) (event : EventValue) (new : ListenerValue) (answer : ListenerAnswerValue) : Type 0 where
  pub before : Slot
  pub after : Slot
  pub was : slice_get old.slots slot ≡ Some before
  pub moves : SlotMoves holds old.entries old.most (open_count old.slots) before event after answer
  pub others : new ≡ record old { slots = slice_set old.slots slot after }

-- what the code returns, as a value
abbrev pub answer_of : ListenerAnswer → ListenerAnswerValue
answer_of answers.Nothing = nothing
answer_of (answers.Send p) = send (packet_of p)
answer_of (answers.SendAndClose p) = send_and_close (packet_of p)
answer_of answers.Close = close
answer_of (answers.Up octets) = up octets.items

-- the call goes on: here, or elsewhere
pub data LetsIn : ListenerAnswerValue → Type 0 where
  here : LetsIn (send positive)
  elsewhere : (to : Addr) → LetsIn (send_and_close (retarget to))
