-- What was read of octets.
use Rattle.std.proofs.Common.{◌≡◌, List, ℕ, Some, None, refl}
use Rattle.std.specs.Prelude.{Option, ◌↔◌}
use Rattle.nbt_packet.specs.declared.message.Message.{Message}
use Rattle.nbt_packet.specs.Message.{MessageValue, message_of, message_if}
use Rattle.nbt_packet.specs.Spelling.{Spells}
use Rattle.nbt_node.specs.Datagrams.{Says}

-- the message that was read is the one that the octets spell
pub says_read : (found : Option Message) (octets : List ℕ) → ((message : MessageValue) → (message_if found ≡ Some message) ↔ Spells octets message) → Says octets (message_if found)
says_read None octets reads = λ message s. let e = (reads message).1 s in absurd cc
says_read (Some message) octets reads = (reads (message_of message)).0 refl
