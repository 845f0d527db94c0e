-- A session's stream in pieces, one after the other.
use Rattle.std.specs.Prelude.{◌≡◌, ℕ, ◌≤◌, List, [], ◌∷◌, ◌++◌, length, take, Option, Some, None, Result, Ok, Err}
use Rattle.std.specs.Option.{option_map}
use Rattle.nbt_session.specs.declared.fault.Fault.{Fault}
use Rattle.nbt_session.specs.declared.fault.StreamFault.{StreamFault}
use Rattle.nbt_session.specs.declared.fault.StreamFault.TheVariants.{Malformed, OutOfMemory}
use Rattle.nbt_session.specs.declared.packet.Packet.{Packet}
use Rattle.nbt_session.specs.Packet.{PacketValue, IsPacket, text, packet_of}
use Rattle.nbt_session.specs.Stream.{IsPartial, HasFault}

-- A stream holds the octets of the packet that comes, as far as they came, or has a fault for ever.
pub data StreamState : Type 0 where
  holding : List ℕ → StreamState
  failed : Fault → StreamState

-- how many octets of a piece were taken, and the packet that is whole now
abbrev pub Taken : Type 0
Taken = Result (ℕ × Option PacketValue) StreamFault

-- What a stream makes of a piece. A packet is whole: what was held and what is taken are its text. None is: the whole
-- piece joins what is held. They have a fault: so it stays. Out of memory: nothing is taken and nothing changes.
pub data Takes (piece : List ℕ) : StreamState → Taken → StreamState → Type 0 where
  packet_is_whole : (held : List ℕ) (n : ℕ) (packet : PacketValue) → n ≤ length piece → IsPacket packet
      → held ++ take n piece ≡ text packet
      → Takes piece (holding held) (Ok (n, Some packet)) (holding [])
  piece_is_held : (held : List ℕ) → IsPartial (held ++ piece) → ((fault : Fault) → HasFault (held ++ piece) fault → ⊥)
      → Takes piece (holding held) (Ok (length piece, None)) (holding (held ++ piece))
  fault_is_seen : (held : List ℕ) (fault : Fault) → HasFault (held ++ piece) fault
      → Takes piece (holding held) (Err (Malformed fault)) (failed fault)
  fault_stays : (fault : Fault) → Takes piece (failed fault) (Err (Malformed fault)) (failed fault)
  memory_is_refused : (held : List ℕ) → Takes piece (holding held) (Err OutOfMemory) (holding held)

-- Pieces given one after the other: the octets taken in all, the packets returned, and the state afterwards.
pub data Run : StreamState → List ℕ → List PacketValue → StreamState → Type 0 where
  ends : (s : StreamState) → Run s [] [] s
  answers : (piece octets : List ℕ) (n : ℕ) (packet : PacketValue) (packets : List PacketValue) (s t u : StreamState)
      → Takes piece s (Ok (n, Some packet)) t → Run t octets packets u
      → Run s (take n piece ++ octets) (packet ∷ packets) u
  waits : (piece octets : List ℕ) (n : ℕ) (packets : List PacketValue) (s t u : StreamState)
      → Takes piece s (Ok (n, None)) t → Run t octets packets u → Run s (take n piece ++ octets) packets u
  starves : (piece octets : List ℕ) (packets : List PacketValue) (s t u : StreamState)
      → Takes piece s (Err OutOfMemory) t → Run t octets packets u → Run s octets packets u

-- what the code returns, as a value
abbrev pub taken : Result (ℕ × Option Packet) StreamFault → Taken
taken (Ok t) = Ok (t.0, option_map packet_of t.1)
taken (Err fault) = Err fault
