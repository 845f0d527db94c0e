-- What the private functions of `classifying` say of a packet.
use Rattle.std.specs.Prelude.{Option, Some, None}
use Rattle.nbt_packet.specs.declared.message.Message.{Message}
use Rattle.nbt_packet.specs.declared.reason.Reason.{Reason}
use Rattle.nbt_packet.specs.Packet.{PacketValue}
use Rattle.nbt_packet.specs.Message.{MessageValue, MessageIs, message_of}
use Rattle.nbt_packet.specs.Reasons.{Shape, HasShape, IsRight, IsRightBefore}

-- the packet spells the message, or none
abbrev pub Classifies : PacketValue → Option Message → Type 0
Classifies p None = (m : MessageValue) → ¬ MessageIs p m
Classifies p (Some message) = MessageIs p (message_of message)

-- this is the first respect in which the packet isn't as its shape wants it
abbrev pub IsWrong : Shape → PacketValue → Reason → Type 0
IsWrong shape p reason = HasShape p.flags shape × IsRightBefore shape p reason × (¬ IsRight shape p reason)
