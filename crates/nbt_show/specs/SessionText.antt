-- What is printed of the octets of a session's stream (our profile).
use Rattle.std.specs.Prelude.{ℕ, List, ◌++◌, Bool, true, false, length, codes}
use Rattle.std.specs.Fmt.{decimal}
use Rattle.nbt_name.specs.declared.addr.Addr.{Addr}
use Rattle.nbt_name.specs.Wire.{NameValue}
use Rattle.nbt_session.specs.declared.fault.Fault.{Fault}
use Rattle.nbt_session.specs.Numbers.{kind_word}
use Rattle.nbt_session.specs.Packet.{PacketValue, message, request, positive, negative, retarget, keep_alive, packet_of}
use Rattle.nbt_session.specs.Stream.{StreamIs, HasFault}
use Rattle.nbt_text.specs.Address.{address_text}
use Rattle.nbt_show.specs.DgramText.{two_digits}
use Rattle.nbt_text.specs.NameText.{PrintsName}
use Rattle.nbt_show.specs.PacketText.{data_text}
use Rattle.nbt_text.specs.Lines.{newline}
use Rattle.nbt_text.specs.Texts.{PrintsEach}
use Rattle.nbt_show.specs.declared.session_packet.Whole.{Whole}
use Rattle.nbt_show.specs.declared.session_packet.Whole.TheVariants as wholes

-- a whole packet of a stream, as a value
abbrev pub whole_of : Whole → PacketValue
whole_of (wholes.Message octets) = message octets.now
whole_of (wholes.Other packet) = packet_of packet

-- the line of a message: how many octets of data it has, and which
abbrev pub message_line : List ℕ → List ℕ
message_line octets = codes "message " ++ decimal (length octets) ++ codes " " ++ data_text octets ++ newline

-- the line of a request between two names
abbrev pub request_line : (called calling : List ℕ) → List ℕ
request_line called calling = codes "request " ++ called ++ codes " " ++ calling ++ newline

-- A packet has one line.
pub data PrintsPacketLine : PacketValue → List ℕ → Type 0 where
  of_message : (octets : List ℕ) → PrintsPacketLine (message octets) (message_line octets)
  of_request : (called calling : NameValue) (one other : List ℕ) → PrintsName called one → PrintsName calling other
      → PrintsPacketLine (request called calling) (request_line one other)
  of_positive : PrintsPacketLine positive (codes "positive" ++ newline)
  of_negative : (code : ℕ) → PrintsPacketLine (negative code) (codes "negative " ++ two_digits code ++ newline)
  of_retarget : (to : Addr) → PrintsPacketLine (retarget to) (codes "retarget " ++ address_text to ++ newline)
  of_keep_alive : PrintsPacketLine keep_alive (codes "keep-alive" ++ newline)

abbrev pub rest_line : List ℕ → List ℕ
rest_line rest = codes "rest " ++ decimal (length rest) ++ newline

abbrev pub session_fault_line : Fault → List ℕ
session_fault_line fault = codes "fault " ++ kind_word fault.kind ++ codes " at " ++ decimal fault.place ++ newline

-- What is printed of octets, and whether they have no fault: the lines of the packets, and how many octets are left,
-- or the fault that they begin with, whose place is counted from there.
pub data PrintsSession (octets : List ℕ) : Bool → List ℕ → Type 0 where
  rest_follows : (packets : List PacketValue) (rest lines : List ℕ) → StreamIs octets packets rest
      → ((fault : Fault) → ¬ HasFault rest fault) → PrintsEach PrintsPacketLine packets lines
      → PrintsSession octets true (lines ++ rest_line rest)
  fault_follows : (packets : List PacketValue) (rest lines : List ℕ) (fault : Fault) → StreamIs octets packets rest
      → HasFault rest fault → PrintsEach PrintsPacketLine packets lines
      → PrintsSession octets false (lines ++ session_fault_line fault)
