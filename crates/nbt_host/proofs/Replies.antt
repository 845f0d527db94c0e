-- What is said of a message, and what is sent back.
use Rattle.std.proofs.Common.{◌≡◌, ℕ, ◌<◌, List, [], ◌∷◌, Some, None, Ok, Err, refl, sym, subst}
use Rattle.std.specs.Prelude.{Option, Result, OnOk, OnErr}
use Rattle.nbt_name.specs.declared.addr.Addr.{Addr}
use Rattle.nbt_packet.specs.Message.{MessageValue}
use Rattle.nbt_node.specs.Node.{NodeValue}
use Rattle.nbt_node.specs.Moves.{Told}
use Rattle.nbt_node.specs.Datagrams.{Handles, Says}
use Rattle.nbt_port.specs.declared.port.Device.{Device}
use Rattle.nbt_port.specs.declared.port.Route.{Route}
use Rattle.nbt_port.specs.PortCalls.{PortCall, came, sent, send_failed, sending, receiving, Chain}
use Rattle.nbt_port.proofs.Chains.{chain_one}
use Rattle.nbt_host.specs.declared.news.Notice.{Notice}
use Rattle.nbt_node.specs.Answering.{sent_back}
use Rattle.nbt_host.specs.Noticing.{doubted, notice_of}
use Rattle.nbt_host.specs.Hosting.{sending_to, doubting, HostHears, hears_nothing, hears, hears_back, LosesReply, loses_reply}

-- ---- what is sent back, by what its sending returned

pub back_sent : {P A : Type 0} (does : P → PortCall → P → Type 0) (p q : P) (to : Route) (what : Option (List ℕ)) (out : List ℕ) (result : Result A Device) → what ≡ Some out → does p (sending to out result) q → OnOk result (Chain does p (sending_to to what) q)
back_sent does p q to what out (Ok done) is did = rw is (chain_one does p (sent to out) q did)
back_sent does p q to what out (Err failure) is did = tt

pub back_lost : {P A : Type 0} (does : P → PortCall → P → Type 0) (p q : P) (to : Route) (what : Option (List ℕ)) (out : List ℕ) (result : Result A Device) → what ≡ Some out → does p (sending to out result) q
    → OnErr result ((lost : List ℕ) × (what ≡ Some lost) × does p (send_failed to lost) q)
back_lost does p q to what out (Ok done) is did = tt
back_lost does p q to what out (Err failure) is did = (out, is, did)

-- ---- what is heard

abbrev pub Heard_by : {P : Type 0} → (P → PortCall → P → Type 0) → (server : Addr) → ℕ → NodeValue → PortCall → Option Notice → NodeValue → P → P → Type 0
Heard_by does server now old hearing notice new p q = (acts : List PortCall) × HostHears server now old (hearing ∷ acts) notice new × Chain does p acts q

abbrev pub Lost_by : {P : Type 0} → (P → PortCall → P → Type 0) → ℕ → NodeValue → PortCall → NodeValue → P → P → Type 0
Lost_by does now old hearing new p q = (to : Route) × (lost : List ℕ) × LosesReply now old (hearing ∷ send_failed to lost ∷ []) new × does p (send_failed to lost) q

pub heard_none : {P : Type 0} (does : P → PortCall → P → Type 0) (p : P) (server : Addr) (now : ℕ) (old : NodeValue) (found : Option Route) (octets : List ℕ) → found ≡ None → Heard_by does server now old (receiving (Ok found) octets) None old p p
heard_none does p server now old found octets none = rw none ([], hears_nothing, refl)

pub heard_back : {P : Type 0} (does : P → PortCall → P → Type 0) (p : P) (server : Addr) (now : ℕ) (old new : NodeValue) (found : Option Route) (from : Route) (octets : List ℕ) → found ≡ Some from → now < old.last → new ≡ old
    → Heard_by does server now old (receiving (Ok found) octets) None new p p
heard_back does p server now old new found from octets some back same = rw (some, same) ([], hears_back from octets back, refl)

pub heard_one : {P : Type 0} (does : P → PortCall → P → Type 0) (p q : P) (server : Addr) (now : ℕ) (old new after : NodeValue) (found : Option Route) (from : Route) (octets reply : List ℕ) (message : Option MessageValue) (told : Told) (notice : Option Notice)
    → found ≡ Some from → Handles old now from.peer octets new told reply → Says octets message → after ≡ doubting new (doubted server from.peer message told) → notice ≡ notice_of server from.peer message told
    → Chain does p (sending_to from (sent_back new now message told reply)) q → Heard_by does server now old (receiving (Ok found) octets) notice after p q
heard_one does p q server now old new after found from octets reply message told notice some handles says doubts is did =
    let acts = sending_to from (sent_back new now message told reply) in
    rw (some, doubts) (acts, subst (λ (x : Option Notice). HostHears server now old (came from octets ∷ acts) x (doubting new (doubted server from.peer message told))) (sym is) (hears from octets reply message told new handles says), did)

pub reply_lost : {P : Type 0} (does : P → PortCall → P → Type 0) (p q : P) (now : ℕ) (old new : NodeValue) (found : Option Route) (from : Route) (octets reply : List ℕ) (message : Option MessageValue) (told : Told) → found ≡ Some from
    → Handles old now from.peer octets new told reply → Says octets message → ((lost : List ℕ) × (sent_back new now message told reply ≡ Some lost) × does p (send_failed from lost) q)
    → Lost_by does now old (receiving (Ok found) octets) new p q
reply_lost does p q now old new found from octets reply message told some handles says x = rw some (from, x.0, loses_reply from octets reply x.0 message told new handles says x.1, x.2)
