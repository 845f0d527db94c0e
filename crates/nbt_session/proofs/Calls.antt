-- Lines of the tables of callers and listeners, by what the code finds.
use Rattle.std.proofs.Common.{◌≡◌, ◌≢◌, ℕ, ◌+◌, ◌<◌, ◌≤◌, true, false, Option, Some, None, Vec, refl, arith, inl, inr}
use Rattle.std.specs.Prelude.{is_some}
use Rattle.std.proofs.lemmas.Bool.{cases_lt}
use Rattle.std.specs.Global.{Global}
use Rattle.nbt_name.specs.declared.addr.Addr.{Addr}
use Rattle.nbt_name.specs.declared.addr.Kind.{Kind}
use Rattle.nbt_name.specs.Wire.{NameValue}
use Rattle.nbt_session.specs.declared.caller.CallerState.{CallerState}
use Rattle.nbt_session.specs.declared.caller.CallerState.TheVariants.{Connecting, Failed}
use Rattle.nbt_session.specs.declared.caller.Failure.{Failure}
use Rattle.nbt_session.specs.declared.packet.Packet.{Packet}
use Rattle.nbt_session.specs.declared.packet.Packet.TheVariants as packets
use Rattle.nbt_session.specs.declared.packet.PacketType.TheVariants.{Message, Request, KeepAlive}
use Rattle.nbt_session.specs.Event.{EventValue}
use Rattle.nbt_session.specs.Packet.{type_of, packet_of}
use Rattle.nbt_session.specs.Caller.{AnswerValue, connect, fail, CallerMoves, connects, is_not_connected, is_cut_off, is_not_connected_at_last, is_cut_off_at_last, is_spoken_to_unasked, is_taken, is_refused, is_retargeted, is_retargeted_at_last, waits_on, gets_a_message_for_an_answer, gets_a_request_for_an_answer, gets_a_message, stays_alive, ends, gets_what_has_no_place, waits_connected_already, is_open_already, stays_closed, stays_failed}

-- what follows where a try may be left, and where none is
pub record NextTry (to : Addr) (tries : ℕ) (failure : Failure) (t : CallerState) (a : AnswerValue) : Type 0 where
  pub more : tries < 4 → (t ≡ Connecting to (tries + 1)) × (a ≡ connect to)
  pub last : tries ≡ 4 → (t ≡ Failed) × (a ≡ fail failure)

pub tries_next : {called calling : NameValue} (at : ℕ → CallerState) (e : EventValue) (to : Addr) (failure : Failure) → ((tries : ℕ) → tries < 4 → CallerMoves called calling (at tries) e (Connecting to (tries + 1)) (connect to))
    → CallerMoves called calling (at 4) e Failed (fail failure) → (tries : ℕ) (t : CallerState) (a : AnswerValue) → tries ≤ 4 → NextTry to tries failure t a → CallerMoves called calling (at tries) e t a
tries_next {called} {calling} at e to failure again over tries t a fits next =
    elim (cases_lt tries 4) [
      | inl less ↦ rw ((next.more less).0, (next.more less).1) (again tries less)
      | inr all ↦
          let four : tries ≡ 4 = omega arith in
          rw (four, (next.last four).0, (next.last four).1) over
    ]

-- ---- packets of another type

pub no_request : (p : Packet) → ((called calling : NameValue) → p ≡ packets.Request called calling → ⊥) → type_of (packet_of p) ≢ Request
no_request (packets.Request called calling) none e = none called calling refl
no_request _ none e = cc

pub no_message : (p : Packet) → ((octets : Vec ℕ Global) → p ≡ packets.Message octets → ⊥) → type_of (packet_of p) ≢ Message
no_message (packets.Message octets) none e = none octets refl
no_message _ none e = cc

pub no_keep_alive : (p : Packet) → (p ≡ packets.KeepAlive → ⊥) → type_of (packet_of p) ≢ KeepAlive
no_keep_alive packets.KeepAlive none e = none refl
no_keep_alive _ none e = cc

-- whether the node holds a name
pub kind_held : (o : Option Kind) → is_some o ≡ true → (kind : Kind) × (o ≡ Some kind)
kind_held None e = absurd cc
kind_held (Some kind) e = (kind, refl)

pub none_held : (o : Option Kind) → is_some o ≡ false → o ≡ None
none_held None e = refl
none_held (Some kind) e = absurd cc

-- ---- one line at a time

pub one_call_move : (called calling : NameValue) (s t u : CallerState) (e : EventValue) (a b : AnswerValue) → CallerMoves called calling s e t a → CallerMoves called calling s e u b → (t ≡ u) × (a ≡ b)
one_call_move called calling _ _ _ _ _ _ (connects to tries) (connects to2 tries2) = (refl, refl)
one_call_move called calling _ _ _ _ _ _ (is_not_connected to tries less) (is_not_connected to2 tries2 less2) = (refl, refl)
one_call_move called calling _ _ _ _ _ _ (is_not_connected to tries less) (is_not_connected_at_last to2) = absurd (omega arith)
one_call_move called calling _ _ _ _ _ _ (is_not_connected_at_last to) (is_not_connected to2 tries2 less2) = absurd (omega arith)
one_call_move called calling _ _ _ _ _ _ (is_not_connected_at_last to) (is_not_connected_at_last to2) = (refl, refl)
one_call_move called calling _ _ _ _ _ _ (is_cut_off to tries less) (is_cut_off to2 tries2 less2) = (refl, refl)
one_call_move called calling _ _ _ _ _ _ (is_cut_off to tries less) (is_cut_off_at_last to2) = absurd (omega arith)
one_call_move called calling _ _ _ _ _ _ (is_cut_off_at_last to) (is_cut_off to2 tries2 less2) = absurd (omega arith)
one_call_move called calling _ _ _ _ _ _ (is_cut_off_at_last to) (is_cut_off_at_last to2) = (refl, refl)
one_call_move called calling _ _ _ _ _ _ (is_spoken_to_unasked to tries p) (is_spoken_to_unasked to2 tries2 p2) = (refl, refl)
one_call_move called calling _ _ _ _ _ _ (is_taken to tries) (is_taken to2 tries2) = (refl, refl)
one_call_move called calling _ _ _ _ _ _ (is_refused to tries code) (is_refused to2 tries2 code2) = (refl, refl)
one_call_move called calling _ _ _ _ _ _ (is_retargeted to other tries less) (is_retargeted to2 other2 tries2 less2) = (refl, refl)
one_call_move called calling _ _ _ _ _ _ (is_retargeted to other tries less) (is_retargeted_at_last to2 other2) = absurd (omega arith)
one_call_move called calling _ _ _ _ _ _ (is_retargeted_at_last to other) (is_retargeted to2 other2 tries2 less2) = absurd (omega arith)
one_call_move called calling _ _ _ _ _ _ (is_retargeted_at_last to other) (is_retargeted_at_last to2 other2) = (refl, refl)
one_call_move called calling _ _ _ _ _ _ (waits_on to tries) (waits_on to2 tries2) = (refl, refl)
one_call_move called calling _ _ _ _ _ _ (gets_a_message_for_an_answer to tries octets) (gets_a_message_for_an_answer to2 tries2 octets2) = (refl, refl)
one_call_move called calling _ _ _ _ _ _ (gets_a_request_for_an_answer to tries x y) (gets_a_request_for_an_answer to2 tries2 x2 y2) = (refl, refl)
one_call_move called calling _ _ _ _ _ _ (gets_a_message octets) (gets_a_message octets2) = (refl, refl)
one_call_move called calling _ _ _ _ _ _ (gets_a_message octets) (gets_what_has_no_place p no_message no_alive) = absurd (no_message refl)
one_call_move called calling _ _ _ _ _ _ stays_alive stays_alive = (refl, refl)
one_call_move called calling _ _ _ _ _ _ stays_alive (gets_what_has_no_place p no_message no_alive) = absurd (no_alive refl)
one_call_move called calling _ _ _ _ _ _ ends ends = (refl, refl)
one_call_move called calling _ _ _ _ _ _ (gets_what_has_no_place p no_message no_alive) (gets_a_message octets) = absurd (no_message refl)
one_call_move called calling _ _ _ _ _ _ (gets_what_has_no_place p no_message no_alive) stays_alive = absurd (no_alive refl)
one_call_move called calling _ _ _ _ _ _ (gets_what_has_no_place p no_message no_alive) (gets_what_has_no_place p2 no_message2 no_alive2) = (refl, refl)
one_call_move called calling _ _ _ _ _ _ (waits_connected_already to tries) (waits_connected_already to2 tries2) = (refl, refl)
one_call_move called calling _ _ _ _ _ _ is_open_already is_open_already = (refl, refl)
one_call_move called calling _ _ _ _ _ _ (stays_closed event) (stays_closed event2) = (refl, refl)
one_call_move called calling _ _ _ _ _ _ (stays_failed event) (stays_failed event2) = (refl, refl)
