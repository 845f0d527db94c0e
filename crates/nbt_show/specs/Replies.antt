-- What is printed of the octets of a reply (our profile).
use Rattle.std.specs.Prelude.{◌≡◌, ℕ, ◌+◌, List, [], ◌++◌, length, drop, Some}
use Rattle.nbt_packet.specs.declared.fault.Fault.{Fault}
use Rattle.nbt_packet.specs.Message.{MessageValue, MessageIs, found, not_found, status}
use Rattle.nbt_packet.specs.Packet.{PacketValue, RecordValue, PacketIs, PacketFault}
use Rattle.nbt_show.specs.declared.reply.Reply.{Reply}
use Rattle.nbt_show.specs.declared.reply.Reply.TheVariants as r
use Rattle.nbt_show.specs.Holders.{IsEntryLine, cut_text, not_found_text}
use Rattle.nbt_show.specs.NodeStatus.{IsNameLine, unit_text}
use Rattle.nbt_show.specs.Rows.{PrintsRows}

-- What is printed of a packet's message: a line for each entry, or why there are none; a line for each name, and the unit id after them,
-- from what stands after the names in RDATA. Of any other message nothing.
abbrev pub PrintsReplyMessage : PacketValue → MessageValue → Reply → List ℕ → Type 0
PrintsReplyMessage packet (found id name ttl entries cut) reply text = (reply ≡ r.Found) × (lines : List ℕ) × PrintsRows 6 IsEntryLine entries lines × (text ≡ lines ++ cut_text cut)
PrintsReplyMessage packet (not_found id rcode name) reply text = (reply ≡ r.NotFound) × (text ≡ not_found_text rcode)
PrintsReplyMessage packet (status id name names) reply text = (reply ≡ r.Found) × (lines : List ℕ) × PrintsRows 18 IsNameLine names lines
    × (answer : RecordValue) × (packet.answer ≡ Some answer) × (text ≡ lines ++ unit_text (drop (1 + length names) answer.rdata))
PrintsReplyMessage packet message reply text = (reply ≡ r.Other) × (text ≡ [])

-- The octets begin with a packet that spells a message, or with one that spells none, or with none.
pub data PrintsReply (octets : List ℕ) : Reply → List ℕ → Type 0 where
  a_message : (packet : PacketValue) (taken : ℕ) (message : MessageValue) (reply : Reply) (text : List ℕ) → PacketIs octets packet taken → MessageIs packet message
      → PrintsReplyMessage packet message reply text → PrintsReply octets reply text
  no_message : (packet : PacketValue) (taken : ℕ) → PacketIs octets packet taken → ((message : MessageValue) → ¬ MessageIs packet message) → PrintsReply octets r.Other []
  no_packet : (fault : Fault) → PacketFault octets fault → PrintsReply octets r.Other []
