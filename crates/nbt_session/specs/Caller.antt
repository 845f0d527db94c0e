-- The caller of a session: RFC 1002 section 5.2.1 and our profile.
use Rattle.std.specs.Prelude.{◌≢◌, ℕ, ◌+◌, ◌<◌, List}
use Rattle.nbt_name.specs.declared.addr.Addr.{Addr}
use Rattle.nbt_name.specs.Wire.{NameValue}
use Rattle.nbt_session.specs.declared.caller.CallerAnswer.{CallerAnswer}
use Rattle.nbt_session.specs.declared.caller.CallerAnswer.TheVariants as answers
use Rattle.nbt_session.specs.declared.caller.CallerState.{CallerState}
use Rattle.nbt_session.specs.declared.caller.CallerState.TheVariants.{Connecting, Waiting, Open, Closed, Failed}
use Rattle.nbt_session.specs.declared.caller.Failure.{Failure}
use Rattle.nbt_session.specs.declared.caller.Failure.TheVariants.{NoConnection, Refused, Protocol, TooManyTries}
use Rattle.nbt_session.specs.declared.packet.PacketType.TheVariants.{Message, KeepAlive}
use Rattle.nbt_session.specs.Event.{EventValue, connected, packet, lost}
use Rattle.nbt_session.specs.Packet.{PacketValue, message, request, positive, negative, retarget, keep_alive, type_of, packet_of}

-- A call: the two names, and where it stands.
pub record CallerValue : Type 0 where
  pub called : NameValue
  pub calling : NameValue
  pub state : CallerState

pub data AnswerValue : Type 0 where
  nothing : AnswerValue
  connect : Addr → AnswerValue
  send : PacketValue → AnswerValue
  opened : AnswerValue
  up : List ℕ → AnswerValue
  closed : AnswerValue
  fail : Failure → AnswerValue

-- What a call does: the state, what happens, the state afterwards, and the answer. A lost connection is tried again
-- and a retarget is followed, four tries in all.
pub data CallerMoves (called calling : NameValue) : CallerState → EventValue → CallerState → AnswerValue → Type 0 where
  connects : (to : Addr) (tries : ℕ)
      → CallerMoves called calling (Connecting to tries) connected (Waiting to tries) (send (request called calling))
  is_not_connected : (to : Addr) (tries : ℕ) → tries < 4
      → CallerMoves called calling (Connecting to tries) lost (Connecting to (tries + 1)) (connect to)
  is_cut_off : (to : Addr) (tries : ℕ) → tries < 4
      → CallerMoves called calling (Waiting to tries) lost (Connecting to (tries + 1)) (connect to)
  is_not_connected_at_last : (to : Addr) → CallerMoves called calling (Connecting to 4) lost Failed (fail NoConnection)
  is_cut_off_at_last : (to : Addr) → CallerMoves called calling (Waiting to 4) lost Failed (fail NoConnection)
  is_spoken_to_unasked : (to : Addr) (tries : ℕ) (p : PacketValue)
      → CallerMoves called calling (Connecting to tries) (packet p) Failed (fail Protocol)
  is_taken : (to : Addr) (tries : ℕ) → CallerMoves called calling (Waiting to tries) (packet positive) Open opened
  is_refused : (to : Addr) (tries code : ℕ)
      → CallerMoves called calling (Waiting to tries) (packet (negative code)) Failed (fail (Refused code))
  is_retargeted : (to other : Addr) (tries : ℕ) → tries < 4
      → CallerMoves called calling (Waiting to tries) (packet (retarget other)) (Connecting other (tries + 1)) (connect other)
  is_retargeted_at_last : (to other : Addr)
      → CallerMoves called calling (Waiting to 4) (packet (retarget other)) Failed (fail TooManyTries)
  waits_on : (to : Addr) (tries : ℕ)
      → CallerMoves called calling (Waiting to tries) (packet keep_alive) (Waiting to tries) nothing
  gets_a_message_for_an_answer : (to : Addr) (tries : ℕ) (octets : List ℕ)
      → CallerMoves called calling (Waiting to tries) (packet (message octets)) Failed (fail Protocol)
  gets_a_request_for_an_answer : (to : Addr) (tries : ℕ) (a b : NameValue)
      → CallerMoves called calling (Waiting to tries) (packet (request a b)) Failed (fail Protocol)
  gets_a_message : (octets : List ℕ) → CallerMoves called calling Open (packet (message octets)) Open (up octets)
  stays_alive : CallerMoves called calling Open (packet keep_alive) Open nothing
  ends : CallerMoves called calling Open lost Closed closed
  gets_what_has_no_place : (p : PacketValue) → type_of p ≢ Message → type_of p ≢ KeepAlive
      → CallerMoves called calling Open (packet p) Failed (fail Protocol)
  waits_connected_already : (to : Addr) (tries : ℕ)
      → CallerMoves called calling (Waiting to tries) connected (Waiting to tries) nothing
  is_open_already : CallerMoves called calling Open connected Open nothing
  stays_closed : (event : EventValue) → CallerMoves called calling Closed event Closed nothing
  stays_failed : (event : EventValue) → CallerMoves called calling Failed event Failed nothing

-- what the code returns, as a value
abbrev pub answer_of : CallerAnswer → AnswerValue
answer_of answers.Nothing = nothing
answer_of (answers.Connect to) = connect to
answer_of (answers.Send p) = send (packet_of p)
answer_of answers.Open = opened
answer_of (answers.Up octets) = up octets.items
answer_of answers.Closed = closed
answer_of (answers.Fail failure) = fail failure
