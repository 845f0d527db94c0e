-- What comes of a host's request where the host may ask and the server can grant: the name is granted, and held.
use Rattle.std.proofs.Common.{◌≡◌, ℕ, suc, true, false, List, [], ◌∷◌, Option, Some, None, sym, ap, subst, ◌∙◌, arith}
use Rattle.nbt_name.specs.declared.addr.Addr.{Addr}
use Rattle.nbt_name.specs.declared.addr.Kind.{Kind}
use Rattle.nbt_name.specs.Wire.{NameValue}
use Rattle.nbt_packet.specs.declared.message.Registration.{Registration}
use Rattle.nbt_packet.specs.Message.{MessageValue, registration, registered}
use Rattle.nbt_packet.specs.Text.{text}
use Rattle.nbt_packet.specs.Spelling.{Spells}
use Rattle.nbt_lease.specs.Config.{ConfigValue, granted}
use Rattle.nbt_lease.specs.Lease.{leases_at, IsSound}
use Rattle.nbt_server.specs.Serving.{ServerValue, ServesOctets}
use Rattle.nbt_server.specs.OneAnswer.{OneReply}
use Rattle.nbt_node.specs.Node.{NodeValue, holds}
use Rattle.nbt_node.specs.Moves.{NameEvent, ask, Told, is_granted, granted_by}
use Rattle.nbt_node.specs.Calls.{Sends}
use Rattle.nbt_node.specs.Datagrams.{Handles, Says}
use Rattle.nbt_port.specs.PortCalls.{PortCall, came, route_to}
use Rattle.nbt_client.specs.declared.turning.Want.{Want}
use Rattle.nbt_client.specs.Turning.{AsksFor}
use Rattle.nbt_serve.specs.Serving.{is_taken, Turns, takes}
use Rattle.nbt_host.specs.declared.goal.Goal.{Goal}
use Rattle.nbt_host.specs.declared.news.Notice.{Notice}
use Rattle.nbt_host.specs.Hosting.{is_wanted, Requests, asks, gives_back, HostHears, hears, hears_back, doubting}
use Rattle.nbt_host.specs.Noticing.{doubted}
use Rattle.nbt_world.specs.Drift.{reading}
use Rattle.nbt_world.specs.World.{WorldValue}
use Rattle.nbt_net.proofs.Granting.{WrittenIsRead, grants, reply_to, with_lease}
use Rattle.nbt_net.proofs.Asking.{wish, asked_node, sends_wish}
use Rattle.nbt_net.proofs.Getting.{Ready, no_denial, got, handles_reply, reply_spells, then_holds}

-- calls have one answer each, and octets spell one message
pub record OneAnswers : Type 0 where
  pub sending : (old a b : NodeValue) (now : ℕ) (name : NameValue) (event : NameEvent) (x y : List ℕ) → Sends old now name event a x → Sends old now name event b y → (a ≡ b) × (x ≡ y)
  pub handling : (old a b : NodeValue) (now : ℕ) (from : Addr) (octets : List ℕ) (t u : Told) (x y : List ℕ) → Handles old now from octets a t x → Handles old now from octets b u y → (a ≡ b) × (t ≡ u) × (x ≡ y)
  pub reply : OneReply
  pub message : (octets : List ℕ) (m n : MessageValue) → Spells octets m → Spells octets n → m ≡ n

module _ (law : WrittenIsRead) (once : OneAnswers) {config : ConfigValue} (wire : WorldValue) {server : ServerValue} (index : ℕ) (at : Addr) {node : NodeValue} {name : NameValue} {kind : Kind} {ttl : ℕ} (ready : Ready config wire server index at node name kind ttl) where
  abbrev now : ℕ
  now = reading wire.now (suc index)

  abbrev to : Addr
  to = wire.ends.server_addr

  abbrev r : Registration
  r = wish node name kind ttl

  abbrev reply : Registration
  reply = record r { ttl = granted config.longest ttl }

  abbrev asked : NodeValue
  asked = asked_node node now name kind ttl

  abbrev after : NodeValue
  after = got law wire index at ready

  pub asks_so : (goal : Goal) (octets : List ℕ) (new : NodeValue) → goal.want ≡ record { name = name; kind = kind; ttl = ttl } → is_wanted goal.stage ≡ true → Requests now node goal (Some octets) new
      → (new ≡ asked) × (octets ≡ text (registration r))
  asks_so goal _ _ want wanted (asks octets new is may does) =
      let own : AsksFor now (record { name = name; kind = kind; ttl = ttl }) node octets new = subst (λ (w : Want). AsksFor now w node octets new) want does in
      once.sending node new asked now name (ask kind ttl) octets (text (registration r)) own.sends (sends_wish node now name kind ttl ready.may law ready.can.numbers)
  asks_so goal _ _ want wanted (gives_back octets new unwanted may does) = let no : true ≡ false = sym wanted ∙ unwanted in absurd cc

  pub replies_so : IsSound server.table.config (reading wire.now 0) (leases_at (reading wire.now 0) server.table.rows) → (octets : List ℕ) (answer : Option MessageValue) (new : ServerValue) → octets ≡ text (registration r)
      → Turns server (is_taken (reading wire.now 0) (route_to at) octets answer) new → answer ≡ Some (registered 0 reply)
  replies_so sound _ _ _ is (takes _ _ octets answer new does) =
      let granted_it = grants law server (reading wire.now 0) at.ip r ready.can in
      (once.reply server (reading wire.now 0) at.ip octets answer (Some (reply_to server.table.config.longest r)) _ _ sound does.serves
      (subst (λ (os : List ℕ). ServesOctets server (reading wire.now 0) at.ip os (Some (reply_to server.table.config.longest r)) (leases_at (reading wire.now 0) (with_lease server (reading wire.now 0) r).table.rows)) (sym is) granted_it.serves)).0
      ∙ ap (λ (n : ℕ). Some (reply_to n r)) ready.longest_is

  says_grant : (m : Option MessageValue) → Says (text (registered 0 reply)) m → m ≡ Some (registered 0 reply)
  says_grant None none = absurd (none (registered 0 reply) (reply_spells law wire index at ready))
  says_grant (Some m) spells = ap (λ (x : MessageValue). Some x) (once.message (text (registered 0 reply)) m (registered 0 reply) spells (reply_spells law wire index at ready))

  pub hears_so : {calls : List PortCall} {notice : Option Notice} {new : NodeValue} → HostHears to now asked (came (route_to to) (text (registered 0 reply)) ∷ calls) notice new → holds new name now ≡ Some kind
  hears_so (hears_back _ _ early) = absurd (omega arith)
  hears_so (hears _ _ out message told new handles says) =
      let same = once.handling asked new after now to (text (registered 0 reply)) told (is_granted (granted_by asked reply)) out [] handles (handles_reply law wire index at ready) in
      ap (λ (n : NodeValue). holds (doubting n (doubted to to message told)) name now) same.0
      ∙ ap (λ (m : Option MessageValue). holds (doubting after (doubted to to m told)) name now) (says_grant message says)
      ∙ ap (λ (t : Told). holds (doubting after (doubted to to (Some (registered 0 reply)) t)) name now) same.1
      ∙ ap (λ (n : Option NameValue). holds (doubting after n) name now) (no_denial to to reply (granted_by asked reply))
      ∙ then_holds law wire index at ready
