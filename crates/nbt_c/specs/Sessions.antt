-- Session packets as C sees them; what the calls answer that take a piece of a stream, and that write a packet.
use Rattle.std.specs.Prelude.{ℕ, List, length, Option, Some, None, Ok, Err, ◌≡◌, ◌≢◌, []}
use Rattle.nbt_session.specs.declared.fault.Fault.{Fault}
use Rattle.nbt_session.specs.declared.fault.StreamFault.TheVariants.{Malformed}
use Rattle.nbt_session.specs.Numbers.{kind_number}
use Rattle.nbt_session.specs.Packet.{PacketValue, message, request, positive, negative, retarget, keep_alive, octet_of, text}
use Rattle.nbt_session.specs.Parts.{PartValue, message_start, message_data, message_end, other, PiecesState, TakesPart}
use Rattle.nbt_session.specs.declared.packet.PacketType.TheVariants.{Message, Request, Positive, Negative, Retarget, KeepAlive}
use Rattle.nbt_c.specs.declared.packet.CPacket.{CPacket}
use Rattle.nbt_c.specs.declared.pieces.CPart.{CPart}
use Rattle.nbt_c.specs.Ends.{addr_for, addr_of}
use Rattle.nbt_c.specs.Names.{stored, HoldsName, name_in}
use Rattle.nbt_c.specs.Results.{no_kind, no_name}

-- what a packet is reported as: its kind, and what that names; all else stays
abbrev pub packet_after : CPacket → PacketValue → CPacket
packet_after before (message octets) = record before { kind = octet_of Message }
packet_after before (request called calling) = record before { kind = octet_of Request; called = stored called; calling = stored calling }
packet_after before positive = record before { kind = octet_of Positive }
packet_after before (negative code) = record before { kind = octet_of Negative; code = code }
packet_after before (retarget to) = record before { kind = octet_of Retarget; to = addr_for to }
packet_after before keep_alive = record before { kind = octet_of KeepAlive }

-- what a part is reported as
abbrev pub part_after : CPart → Option PartValue → CPart
part_after before None = record before { kind = 0 }
part_after before (Some (message_start size)) = record before { kind = 1; size = size }
part_after before (Some (message_data octets)) = record before { kind = 2; size = length octets }
part_after before (Some message_end) = record before { kind = 3 }
part_after before (Some (other packet)) = record before { kind = 4; packet = packet_after before.packet packet }

pub data TakesFor (piece : List ℕ) (old : PiecesState) (before : CPart) : ℕ → CPart → ℕ → PiecesState → Type 0 where
  takes : (taken : ℕ) (part : Option PartValue) (new : PiecesState) → TakesPart piece old (Ok (taken, part)) new
      → TakesFor piece old before 0 (part_after before part) taken new
  is_refused : (fault : Fault) (new : PiecesState) → TakesPart piece old (Err (Malformed fault)) new
      → TakesFor piece old before (kind_number fault.kind) before fault.place new

-- a packet that C passes; of a message that it is one, and its octets stay with the program
pub data IsPacketIn (held : CPacket) : PacketValue → Type 0 where
  is_message : held.kind ≡ octet_of Message → IsPacketIn held (message [])
  is_request : held.kind ≡ octet_of Request → HoldsName held.called → HoldsName held.calling → IsPacketIn held (request (name_in held.called) (name_in held.calling))
  is_positive : held.kind ≡ octet_of Positive → IsPacketIn held positive
  is_negative : held.kind ≡ octet_of Negative → IsPacketIn held (negative held.code)
  is_retarget : held.kind ≡ octet_of Retarget → IsPacketIn held (retarget (addr_of held.to))
  is_keep_alive : held.kind ≡ octet_of KeepAlive → IsPacketIn held keep_alive

pub data PacketFault (held : CPacket) : ℕ → Type 0 where
  has_no_kind : held.kind ≢ octet_of Message → held.kind ≢ octet_of Request → held.kind ≢ octet_of Positive → held.kind ≢ octet_of Negative → held.kind ≢ octet_of Retarget → held.kind ≢ octet_of KeepAlive
      → PacketFault held no_kind
  has_no_called : held.kind ≡ octet_of Request → ¬ HoldsName held.called → PacketFault held no_name
  has_no_calling : held.kind ≡ octet_of Request → HoldsName held.called → ¬ HoldsName held.calling → PacketFault held no_name

-- a packet that is no message is written, with the names that it holds
pub data WritesPacket (held : CPacket) : ℕ → List ℕ → Type 0 where
  is_written : (packet : PacketValue) → held.kind ≢ octet_of Message → IsPacketIn held packet → WritesPacket held 0 (text packet)
  is_refused : (number : ℕ) → held.kind ≢ octet_of Message → PacketFault held number → WritesPacket held number []
  has_message : held.kind ≡ octet_of Message → WritesPacket held no_kind []
