-- What the calls of the calling endpoint of a session answer.
use Rattle.std.specs.Prelude.{◌≡◌, ◌≢◌, ℕ, List, [], Option, Some, None}
use Rattle.nbt_name.specs.declared.addr.Addr.{Addr}
use Rattle.nbt_session.specs.declared.caller.CallerState.TheVariants.{Connecting}
use Rattle.nbt_session.specs.declared.caller.Failure.{Failure}
use Rattle.nbt_session.specs.declared.caller.Failure.TheVariants.{Refused}
use Rattle.nbt_session.specs.Caller.{AnswerValue, CallerMoves, CallerValue, nothing, connect, send, opened, up, closed, fail}
use Rattle.nbt_session.specs.Event.{EventValue, connected, lost}
use Rattle.nbt_session.specs.Event.{packet as comes}
use Rattle.nbt_session.specs.Numbers.{failure_number}
use Rattle.nbt_session.specs.Packet.{PacketValue, text}
use Rattle.nbt_c.specs.declared.caller.CAnswer.{CAnswer}
use Rattle.nbt_c.specs.declared.name.CName.{CName}
use Rattle.nbt_c.specs.declared.packet.CPacket.{CPacket}
use Rattle.nbt_c.specs.Ends.{addr_for}
use Rattle.nbt_c.specs.Names.{HoldsName, name_in}
use Rattle.nbt_c.specs.Results.{no_kind, no_name}
use Rattle.nbt_c.specs.Sessions.{IsPacketIn, PacketFault}

-- what happened to the connection: 0 it stands, 1 a packet came, 2 it is gone
pub data IsEvent (happened : ℕ) (held : CPacket) : EventValue → Type 0 where
  is_connected : happened ≡ 0 → IsEvent happened held connected
  has_come : (packet : PacketValue) → happened ≡ 1 → IsPacketIn held packet → IsEvent happened held (comes packet)
  is_lost : happened ≡ 2 → IsEvent happened held lost

pub data EventFault (happened : ℕ) (held : CPacket) : ℕ → Type 0 where
  is_none : happened ≢ 0 → happened ≢ 1 → happened ≢ 2 → EventFault happened held no_kind
  packet_bad : (number : ℕ) → happened ≡ 1 → PacketFault held number → EventFault happened held number

-- what an answer is reported as: its kind, and what that names; all else stays
abbrev pub with_failure : CAnswer → Failure → CAnswer
with_failure before (Refused code) = record before { code = code }
with_failure before failure = before

abbrev pub answer_after : CAnswer → AnswerValue → CAnswer
answer_after before nothing = record before { kind = 0 }
answer_after before (connect to) = record before { kind = 1; to = addr_for to }
answer_after before (send packet) = record before { kind = 2 }
answer_after before opened = record before { kind = 3 }
answer_after before (up octets) = record before { kind = 4 }
answer_after before closed = record before { kind = 5 }
answer_after before (fail failure) = record (with_failure before failure) { kind = 6; failure = failure_number failure }

-- the octets that go out
abbrev pub sent_by : AnswerValue → List ℕ
sent_by (send packet) = text packet
sent_by answer = []

pub data Begins (called calling : CName) (to : Addr) : ℕ → Option CallerValue → Type 0 where
  begins : HoldsName called → HoldsName calling → Begins called calling to 0 (Some (record { called = name_in called; calling = name_in calling; state = Connecting to 1 }))
  has_no_called : ¬ HoldsName called → Begins called calling to no_name None
  has_no_calling : HoldsName called → ¬ HoldsName calling → Begins called calling to no_name None

pub data CallsFor (old : CallerValue) (happened : ℕ) (held : CPacket) : ℕ → AnswerValue → CallerValue → Type 0 where
  calls : (event : EventValue) (answer : AnswerValue) (new : CallerValue) → IsEvent happened held event
      → CallerMoves old.called old.calling old.state event new.state answer → new.called ≡ old.called → new.calling ≡ old.calling
      → CallsFor old happened held 0 answer new
  is_refused : (number : ℕ) → EventFault happened held number → CallsFor old happened held number nothing old
