-- A node has octets for an end only where it tells of a status request.
use Rattle.std.proofs.Common.{◌≡◌, ℕ, List, [], Option, None, refl, subst}
use Rattle.std.specs.Prelude.{◌≢◌}
use Rattle.nbt_name.specs.declared.addr.Addr.{Addr}
use Rattle.nbt_name.specs.Wire.{NameValue}
use Rattle.nbt_packet.specs.Message.{MessageValue}
use Rattle.nbt_packet.specs.Message as m
use Rattle.nbt_node.specs.Node.{NodeValue}
use Rattle.nbt_node.specs.Moves.{Told, replied, finds, finds_none, lists}
use Rattle.nbt_packet.specs.Spelling.{AreWritten}
use Rattle.nbt_node.specs.Datagrams.{NodeHears, from_server, from_stranger, Lists, lists_names, lists_nothing, Ends, is_answered, is_unanswered, Idles, idles, NodeTakes, NodeTakesOctets, spelled, unspelled, Handles}

heard_none : (old : NodeValue) (now : ℕ) (from : Addr) (name : NameValue) (message : MessageValue) (new : NodeValue) (sent : Option MessageValue) (told : Told) → NodeHears old now from name message new sent told → sent ≡ None
heard_none old now from name message new sent told (from_server n t same moves) = refl
heard_none old now from name message new sent told (from_stranger n same passes) = refl

listed_none : (old : NodeValue) (now id : ℕ) (name : NameValue) (new : NodeValue) (sent : Option MessageValue) (told : Told) → told ≢ replied → Lists old now id name new sent told → sent ≡ None
listed_none old now id name new sent told other (lists_names n is passes) = absurd (other refl)
listed_none old now id name new sent told other (lists_nothing n is passes) = refl

ended_none : (old : NodeValue) (now : ℕ) (from : Addr) (message : MessageValue) (end : Told) (new : NodeValue) (sent : Option MessageValue) (told : Told) → Ends old now from message end new sent told → sent ≡ None
ended_none old now from message end new sent told (is_answered n is looks) = refl
ended_none old now from message end new sent told (is_unanswered n is passes) = refl

idle_none : (old : NodeValue) (now : ℕ) (new : NodeValue) (sent : Option MessageValue) (told : Told) → Idles old now new sent told → sent ≡ None
idle_none old now new sent told (idles n passes) = refl

taken_none : (old : NodeValue) (now : ℕ) (from : Addr) (message : MessageValue) (new : NodeValue) (sent : Option MessageValue) (told : Told) → told ≢ replied → NodeTakes old now from message new sent told → sent ≡ None
taken_none old now from (m.registered rcode r) new sent told other takes = heard_none old now from r.name (m.registered rcode r) new sent told takes
taken_none old now from (m.released id rcode name kind addr) new sent told other takes = heard_none old now from name (m.released id rcode name kind addr) new sent told takes
taken_none old now from (m.wait id name ttl) new sent told other takes = heard_none old now from name (m.wait id name ttl) new sent told takes
taken_none old now from (m.status_request id name) new sent told other takes = listed_none old now id name new sent told other takes
taken_none old now from (m.found id name ttl entries cut) new sent told other takes = ended_none old now from (m.found id name ttl entries cut) (finds entries cut) new sent told takes
taken_none old now from (m.not_found id rcode name) new sent told other takes = ended_none old now from (m.not_found id rcode name) finds_none new sent told takes
taken_none old now from (m.status id name names) new sent told other takes = ended_none old now from (m.status id name names) (lists names) new sent told takes
taken_none old now from (m.registration r) new sent told other takes = idle_none old now new sent told takes
taken_none old now from (m.overwrite r) new sent told other takes = idle_none old now new sent told takes
taken_none old now from (m.refresh r) new sent told other takes = idle_none old now new sent told takes
taken_none old now from (m.release id name kind addr) new sent told other takes = idle_none old now new sent told takes
taken_none old now from (m.query id name) new sent told other takes = idle_none old now new sent told takes

octets_none : (old : NodeValue) (now : ℕ) (from : Addr) (octets : List ℕ) (new : NodeValue) (sent : Option MessageValue) (told : Told) → told ≢ replied → NodeTakesOctets old now from octets new sent told → sent ≡ None
octets_none old now from octets new sent told other (spelled message n s t spells takes) = taken_none old now from message new sent told other takes
octets_none old now from octets new sent told other (unspelled n none passes) = refl

pub silent_unless_reply : (old : NodeValue) (now : ℕ) (from : Addr) (octets : List ℕ) (new : NodeValue) (told : Told) (out : List ℕ) → told ≢ replied → Handles old now from octets new told out → Handles old now from octets new told []
silent_unless_reply old now from octets new told out other h =
    let none = octets_none old now from octets new h.sent told other h.takes in
    subst (Handles old now from octets new told) (subst (λ s. AreWritten s out) none h.written) h
