-- What the calls of the listening endpoint answer.
use Rattle.std.specs.Prelude.{◌≡◌, ◌≢◌, ℕ, ◌<◌, ◌≤◌, Bool, true, false, if◌then◌else◌, List, [], ◌∷◌, ◌++◌, length, replicate, Option, Some, None}
use Rattle.nbt_name.specs.Wire.{NameValue}
use Rattle.nbt_lease.specs.Config.{last_moment}
use Rattle.nbt_node.specs.Node.{NodeValue, holds}
use Rattle.nbt_session.specs.declared.listener.Entry.{Entry}
use Rattle.nbt_session.specs.declared.listener.Slot.TheVariants.{Free}
use Rattle.nbt_session.specs.Event.{EventValue}
use Rattle.nbt_session.specs.Listener.{ListenerValue, ListenerAnswerValue, nothing, send, send_and_close, close, up, ListenerMoves, Without}
use Rattle.nbt_session.specs.Packet.{text}
use Rattle.nbt_c.specs.declared.listener.CEntry.{CEntry}
use Rattle.nbt_c.specs.declared.name.CName.{CName}
use Rattle.nbt_c.specs.declared.packet.CPacket.{CPacket}
use Rattle.nbt_c.specs.Calling.{IsEvent, EventFault}
use Rattle.nbt_c.specs.Ends.{addr_of}
use Rattle.nbt_c.specs.Names.{HoldsName, name_in}
use Rattle.nbt_c.specs.Results.{no_moment, no_name, no_place, no_room}

-- the entries and the connections that there is room for
abbrev pub entries_most : ℕ
entries_most = 14

abbrev pub slots_most : ℕ
slots_most = 8

-- ---- entries

abbrev pub calling_in : Bool → CName → Option NameValue
calling_in false held = None
calling_in true held = Some (name_in held)

abbrev pub entry_in : CEntry → Entry
entry_in held = record {
  called = name_in held.called;
  calling = calling_in held.by_one held.calling;
  retarget = if held.elsewhere then Some (addr_of held.retarget) else None;
}

abbrev pub HoldsEntry : CEntry → Type 0
HoldsEntry held = HoldsName held.called × (held.by_one ≡ true → HoldsName held.calling)

pub data StartsListener (most : ℕ) : ℕ → Option ListenerValue → Type 0 where
  starts : most ≤ slots_most → StartsListener most 0 (Some (record { entries = []; slots = replicate slots_most Free; most = most }))
  has_many : slots_most < most → StartsListener most no_place None

pub data ListensTo (held : CEntry) (old : ListenerValue) : ℕ → ListenerValue → Type 0 where
  listens : HoldsEntry held → length old.entries ≢ entries_most → ListensTo held old 0 (record old { entries = old.entries ++ entry_in held ∷ [] })
  is_full : HoldsEntry held → length old.entries ≡ entries_most → ListensTo held old no_room old
  has_no_name : ¬ HoldsEntry held → ListensTo held old no_name old

pub data StopsListening (called : CName) (old : ListenerValue) : ℕ → ListenerValue → Type 0 where
  stops : (entries : List Entry) → HoldsName called → Without (name_in called) old.entries entries → StopsListening called old 0 (record old { entries = entries })
  has_no_name : ¬ HoldsName called → StopsListening called old no_name old

-- ---- connections

-- what an answer is reported as: its kind alone
abbrev pub kind_of : ListenerAnswerValue → ℕ
kind_of nothing = 0
kind_of (send packet) = 2
kind_of (up octets) = 4
kind_of (send_and_close packet) = 7
kind_of close = 8

-- the octets that go out
abbrev pub sent_for : ListenerAnswerValue → List ℕ
sent_for (send packet) = text packet
sent_for (send_and_close packet) = text packet
sent_for answer = []

pub data ListensFor (old : ListenerValue) (now : ℕ) (node : NodeValue) (slot happened : ℕ) (held : CPacket) : ℕ → ListenerAnswerValue → ListenerValue → Type 0 where
  moves : (event : EventValue) (answer : ListenerAnswerValue) (new : ListenerValue) → now ≤ last_moment → slot < slots_most → IsEvent happened held event
      → ListenerMoves (λ name. holds node name now) old slot event new answer → ListensFor old now node slot happened held 0 answer new
  is_refused : (number : ℕ) → now ≤ last_moment → slot < slots_most → EventFault happened held number → ListensFor old now node slot happened held number nothing old
  has_no_slot : now ≤ last_moment → slots_most ≤ slot → ListensFor old now node slot happened held no_place nothing old
  has_no_moment : last_moment < now → ListensFor old now node slot happened held no_moment nothing old
