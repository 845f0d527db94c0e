-- A call sends requests alone.
use Rattle.nbt_c.proofs.Common.{◌≡◌, sym, ap, NameValue, Request, AnswerValue, CallerMoves, connects, EventValue, PacketValue, request, type_of}
use Rattle.nbt_session.specs.declared.caller.CallerState.{CallerState}
use Rattle.nbt_session.specs.Caller.{send}

pub sends_requests : (called calling : NameValue) (s t : CallerState) (event : EventValue) (answer : AnswerValue) → CallerMoves called calling s event t answer → (p : PacketValue) → answer ≡ send p → type_of p ≡ Request
sends_requests called calling _ _ _ _ (connects to tries) sent e = let same : request called calling ≡ sent = cc in ap type_of (sym same)
sends_requests called calling _ _ _ _ moves sent e = absurd cc
