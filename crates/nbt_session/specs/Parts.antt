-- A session's stream in parts: what it hands out of a message's octets at once, and what it holds.
use Rattle.std.specs.Prelude.{◌≡◌, ◌≢◌, ℕ, ◌-◌, ◌<◌, ◌≤◌, List, [], ◌∷◌, ◌++◌, length, take, min, Option, Some, None, Result, Ok, Err}
use Rattle.nbt_name.specs.Wire.{AreOctets}
use Rattle.nbt_session.specs.declared.fault.Fault.{Fault}
use Rattle.nbt_session.specs.declared.fault.StreamFault.{StreamFault}
use Rattle.nbt_session.specs.declared.fault.StreamFault.TheVariants.{Malformed}
use Rattle.nbt_session.specs.declared.packet.PacketType.TheVariants.{Message}
use Rattle.nbt_session.specs.declared.part.Part.{Part}
use Rattle.nbt_session.specs.declared.part.Part.TheVariants as parts
use Rattle.nbt_session.specs.Packet.{PacketValue, message, IsPacket, header, type_of, text, packet_of}
use Rattle.nbt_session.specs.Stream.{IsPartial, HasFault}

-- A part, without where its octets lie in memory.
pub data PartValue : Type 0 where
  message_start : (size : ℕ) → PartValue
  message_data : List ℕ → PartValue
  message_end : PartValue
  other : PacketValue → PartValue

-- Where a stream stands: between packets, with what came of the next one; in a message, with `missing` octets yet to
-- come; or at a fault, for ever.
pub data PiecesState : Type 0 where
  between : List ℕ → PiecesState
  inside : (missing : ℕ) → PiecesState
  faulty : Fault → PiecesState

-- how many octets of a piece were taken, and the part that they make
abbrev pub PartTaken : Type 0
PartTaken = Result (ℕ × Option PartValue) StreamFault

-- they don't begin with a message's header
abbrev pub IsNoMessage : List ℕ → Type 0
IsNoMessage octets = (size : ℕ) (rest : List ℕ) → size ≤ 131071 → octets ≡ header Message size ++ rest → ⊥

-- What a stream makes of a piece. Between packets: a message's header is whole; another packet is; neither is, and the
-- whole piece joins what is held; or they have a fault, which stays. In a message: the octets of the piece that belong
-- to it are handed out; there are none yet; or it has all, and ends.
pub data TakesPart (piece : List ℕ) : PiecesState → PartTaken → PiecesState → Type 0 where
  message_starts : (held : List ℕ) (n size : ℕ) → n ≤ length piece → size ≤ 131071
      → held ++ take n piece ≡ header Message size
      → TakesPart piece (between held) (Ok (n, Some (message_start size))) (inside size)
  message_goes_on : (missing n : ℕ) → n ≡ min missing (length piece) → 0 < n → AreOctets (take n piece)
      → TakesPart piece (inside missing) (Ok (n, Some (message_data (take n piece)))) (inside (missing - n))
  message_waits : (missing : ℕ) → 0 < missing → piece ≡ []
      → TakesPart piece (inside missing) (Ok (0, None)) (inside missing)
  message_ends : TakesPart piece (inside 0) (Ok (0, Some message_end)) (between [])
  packet_is_whole : (held : List ℕ) (n : ℕ) (packet : PacketValue) → n ≤ length piece → IsPacket packet
      → type_of packet ≢ Message → held ++ take n piece ≡ text packet
      → TakesPart piece (between held) (Ok (n, Some (other packet))) (between [])
  piece_is_held : (held : List ℕ) → IsNoMessage (held ++ piece) → IsPartial (held ++ piece)
      → ((fault : Fault) → HasFault (held ++ piece) fault → ⊥)
      → TakesPart piece (between held) (Ok (length piece, None)) (between (held ++ piece))
  fault_is_seen : (held : List ℕ) (fault : Fault) → HasFault (held ++ piece) fault
      → TakesPart piece (between held) (Err (Malformed fault)) (faulty fault)
  fault_stays : (fault : Fault) → TakesPart piece (faulty fault) (Err (Malformed fault)) (faulty fault)

-- Pieces given one after the other: the octets taken in all, the parts returned, and the state afterwards.
pub data PartsRun : PiecesState → List ℕ → List PartValue → PiecesState → Type 0 where
  ends : (s : PiecesState) → PartsRun s [] [] s
  answers : (piece octets : List ℕ) (n : ℕ) (part : PartValue) (parts : List PartValue) (s t u : PiecesState)
      → TakesPart piece s (Ok (n, Some part)) t → PartsRun t octets parts u
      → PartsRun s (take n piece ++ octets) (part ∷ parts) u
  waits : (piece octets : List ℕ) (n : ℕ) (parts : List PartValue) (s t u : PiecesState)
      → TakesPart piece s (Ok (n, None)) t → PartsRun t octets parts u → PartsRun s (take n piece ++ octets) parts u

-- ---- octets

-- what is held
abbrev pub held_in : PiecesState → List ℕ
held_in (between held) = held
held_in (inside missing) = []
held_in (faulty fault) = []

-- the octets of a part, if there is one
abbrev pub octets_in : Option PartValue → List ℕ
octets_in None = []
octets_in (Some (message_start size)) = header Message size
octets_in (Some (message_data octets)) = octets
octets_in (Some message_end) = []
octets_in (Some (other packet)) = text packet

-- Parts begin with a message's data, here put together, and others follow.
pub data DataIs : List PartValue → List ℕ → List PartValue → Type 0 where
  no_more : (others : List PartValue) → DataIs others [] others
  one_more : (octets more : List ℕ) (parts others : List PartValue) → DataIs parts more others
      → DataIs (message_data octets ∷ parts) (octets ++ more) others

-- Parts are packets, and the octets of a message that lacks some. A message is a packet from its last octet on.
pub data PutTogether : List PartValue → List PacketValue → (begun : List ℕ) → Type 0 where
  nothing : PutTogether [] [] []
  one_other : (packet : PacketValue) (parts : List PartValue) (packets : List PacketValue) (begun : List ℕ)
      → PutTogether parts packets begun → PutTogether (other packet ∷ parts) (packet ∷ packets) begun
  message_ended : (octets begun : List ℕ) (parts others : List PartValue) (packets : List PacketValue)
      → DataIs parts octets (message_end ∷ others) → PutTogether others packets begun
      → PutTogether (message_start (length octets) ∷ parts) (message octets ∷ packets) begun
  message_whole : (octets : List ℕ) (parts : List PartValue) → DataIs parts octets []
      → PutTogether (message_start (length octets) ∷ parts) (message octets ∷ []) []
  message_lacks : (size : ℕ) (octets : List ℕ) (parts : List PartValue) → DataIs parts octets [] → length octets < size
      → PutTogether (message_start size ∷ parts) [] (header Message size ++ octets)

-- ---- what the code returns, as a value

abbrev pub part_of : Part → PartValue
part_of (parts.MessageStart size) = message_start size
part_of (parts.MessageData octets) = message_data octets.now
part_of parts.MessageEnd = message_end
part_of (parts.Other packet) = other (packet_of packet)

abbrev pub part_if : Option Part → Option PartValue
part_if None = None
part_if (Some part) = Some (part_of part)

abbrev pub part_taken : Result (ℕ × Option Part) StreamFault → PartTaken
part_taken (Ok t) = Ok (t.0, part_if t.1)
part_taken (Err fault) = Err fault
