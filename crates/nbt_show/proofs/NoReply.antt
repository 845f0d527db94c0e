-- Messages that are no replies to lookups.
use Rattle.std.proofs.Common.{ℕ, List, [], refl}
use Rattle.std.specs.Prelude.{◌≢◌, Bool, Option}
use Rattle.std.specs.Borrow.{Bor}
use Rattle.nbt_name.specs.Wire.{NameValue}
use Rattle.nbt_packet.specs.declared.message.Message.{Message}
use Rattle.nbt_packet.specs.declared.message.Message.TheVariants as m
use Rattle.nbt_packet.specs.Message.{message_of}
use Rattle.nbt_packet.specs.Packet.{PacketValue}
use Rattle.nbt_show.specs.declared.reply.Reply.TheVariants as r
use Rattle.nbt_show.specs.Replies.{PrintsReplyMessage}

-- nothing is printed of them
pub prints_nothing : (packet : PacketValue) (message : Message) → ((id : ℕ) (name : NameValue) (ttl : ℕ) (entries : Bor (List ℕ)) (cut : Bool) → message ≢ m.Found id name ttl entries cut)
    → ((id rcode : ℕ) (name : Option NameValue) → message ≢ m.NotFound id rcode name) → ((id : ℕ) (name : NameValue) (names : Bor (List ℕ)) → message ≢ m.Status id name names)
    → PrintsReplyMessage packet (message_of message) r.Other []
prints_nothing packet (m.Registration _) f n s = (refl, refl)
prints_nothing packet (m.Overwrite _) f n s = (refl, refl)
prints_nothing packet (m.Refresh _) f n s = (refl, refl)
prints_nothing packet (m.Release _ _ _ _) f n s = (refl, refl)
prints_nothing packet (m.Query _ _) f n s = (refl, refl)
prints_nothing packet (m.StatusRequest _ _) f n s = (refl, refl)
prints_nothing packet (m.Registered _ _) f n s = (refl, refl)
prints_nothing packet (m.Released _ _ _ _ _) f n s = (refl, refl)
prints_nothing packet (m.Found id name ttl entries cut) f n s = absurd (f id name ttl entries cut refl)
prints_nothing packet (m.NotFound id rcode name) f n s = absurd (n id rcode name refl)
prints_nothing packet (m.Status id name names) f n s = absurd (s id name names refl)
prints_nothing packet (m.Wait _ _ _) f n s = (refl, refl)
