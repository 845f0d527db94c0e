-- Three acts by which a host gets a free name.
use Rattle.std.proofs.Common.{◌≡◌, ◌≢◌, ℕ, suc, pred, Bool, true, false, ◌&&◌, if◌then◌else◌, List, [], ◌∷◌, ◌++◌, Option, Some, None, refl, sym, ap, subst, ◌∙◌, inl, inr, arith}
use Rattle.std.specs.Prelude.{◌⊎◌, nat_eq}
use Rattle.std.proofs.lemmas.Bool.{cases_eq, eq-eqb, ne_eqb}
use Rattle.std.proofs.lemmas.Grind.{flat_map-append}
use Rattle.std.proofs.lemmas.List.Elements.{Contains-push}
use Rattle.std.proofs.lemmas.Option.{same_Some}
use Rattle.nbt_name.specs.declared.addr.Addr.{Addr}
use Rattle.nbt_name.specs.declared.addr.Kind.{Kind}
use Rattle.nbt_name.specs.Wire.{NameValue}
use Rattle.nbt_packet.specs.declared.message.Registration.{Registration}
use Rattle.nbt_packet.specs.Message.{registration, registered, IsRegistration}
use Rattle.nbt_packet.specs.Text.{text}
use Rattle.nbt_packet.specs.Spelling.{Spells}
use Rattle.nbt_lease.specs.Config.{ConfigValue, granted}
use Rattle.nbt_server.specs.Serving.{ServerValue}
use Rattle.nbt_server.specs.Calls.{ServerTakes}
use Rattle.nbt_node.specs.Node.{NodeValue, AreDistinct}
use Rattle.nbt_node.specs.Settling.{settled}
use Rattle.nbt_node.specs.Transaction.{opened}
use Rattle.nbt_node.specs.Moves.{granted_by, is_granted}
use Rattle.nbt_node.specs.Calls.{ask_refusal}
use Rattle.nbt_node.specs.Datagrams.{same_end, Handles}
use Rattle.nbt_port.specs.PortCalls.{came, sent, route_to, Chain}
use Rattle.nbt_port.proofs.Chains.{chain-append}
use Rattle.nbt_host.specs.Goals.{fresh}
use Rattle.nbt_host.specs.Hosting.{asks, hears, doubting}
use Rattle.nbt_host.specs.Noticing.{doubted, notice_of}
use Rattle.nbt_serve.specs.Serving.{is_taken, takes}
use Rattle.nbt_world.specs.declared.network.Datagram.{Datagram}
use Rattle.nbt_world.specs.Drift.{reading}
use Rattle.nbt_world.specs.World.{WorldValue, addr_of, datagram}
use Rattle.nbt_world.specs.Safety.{held_by}
use Rattle.nbt_net.specs.Wire.{Act, Happening, acts, acts_in, acts_of, of_an_end, end_acts, WireRun, ends, goes_on}
use Rattle.nbt_net.specs.Servers.{ServerEnd, never_up, up, ServerLives, takes_turn}
use Rattle.nbt_net.specs.Hosts.{HostActs, HostLives, requests, does}
use Rattle.nbt_net.specs.Hosts as hosts
use Rattle.nbt_net.specs.Lives.{Network}
use Rattle.nbt_net.specs.Getting.{getting}
use Rattle.nbt_net.proofs.Lives.{own_act, others_act, no_zero, no_suc}
use Rattle.nbt_net.proofs.Granting.{WrittenIsRead, written, CanGrant, reply_to, with_lease, grants, reply_numbers}
use Rattle.nbt_net.proofs.Asking.{wish, asked_node, granted_node, Waits, sends_wish, asked_apart, asked_state, hears_grant, holds_granted}

-- ---- a network goes on

run_on : {a b : List Happening} {x y z : WorldValue} {ws vs : List WorldValue} → WireRun a x ws y → WireRun b y vs z → (us : List WorldValue) × WireRun (a ++ b) x us z
run_on (ends wire) more = (_, more)
run_on {b = b} {z = z} (goes_on wire next last happening happenings wires step run) more = let rest = run_on run more in (wire ∷ rest.0, goes_on wire next z happening (happenings ++ b) rest.0 step rest.1)

acts_of-append : (number : ℕ) (a b : List Happening) → acts_of number (a ++ b) ≡ acts_of number a ++ acts_of number b
acts_of-append number a b = flat_map-append (acts_in number) a b

-- the hosts, one of which is another
abbrev pub with_host : (ℕ → Option NodeValue) → (index : ℕ) → NodeValue → ℕ → Option NodeValue
with_host hosts index node i = if nat_eq i index then Some node else hosts i

pub host_here : (hosts : ℕ → Option NodeValue) (index : ℕ) (node : NodeValue) → with_host hosts index node index ≡ Some node
host_here hosts index node = ap (λ b. if b then Some node else hosts index) (eq-eqb index index refl)

pub host_there : (hosts : ℕ → Option NodeValue) (index : ℕ) (node : NodeValue) (i : ℕ) → i ≢ index → with_host hosts index node i ≡ hosts i
host_there hosts index node i ne = ap (λ b. if b then Some node else hosts i) (ne_eqb i index ne)

-- What goes on is acts of the server and of one host.
pub record GoesOn (config : ConfigValue) (wire : WorldValue) (server : ServerEnd) (host : Option NodeValue) (index : ℕ) (at : Addr) (more : List Happening) (last : WorldValue) (after : ServerEnd) (node : NodeValue) : Type 0 where
  pub wires : List WorldValue
  pub goes : WireRun more wire wires last
  pub server_lives : Chain (ServerLives config) server (acts_of 0 more) after
  pub host_lives : Chain (HostLives config wire.ends.server_addr at) host (acts_of (suc index) more) (Some node)
  pub others : (i : ℕ) → i ≢ index → acts_of (suc i) more ≡ []

module _ {config : ConfigValue} {addrs : List Addr} {before : List Happening} {wire : WorldValue} {server : ServerEnd} {hosts : ℕ → Option NodeValue} (net : Network config addrs before wire server hosts)
    {index : ℕ} {at : Addr} (same : net.first.ends.server_addr ≡ wire.ends.server_addr) (is : addr_of net.first.ends (suc index) ≡ Some at) {more : List Happening} {last : WorldValue} {after : ServerEnd} {node : NodeValue} (g : GoesOn config wire server (hosts index) index at more last after node) where
  hosts_on : (i : ℕ) (to : Addr) → (i ≡ index) ⊎ (i ≢ index) → addr_of net.first.ends (suc i) ≡ Some to → Chain (HostLives config net.first.ends.server_addr to) (hosts i) (acts_of (suc i) more) (with_host hosts index node i)
  hosts_on i to (inl e) there =
      let to_is : at ≡ to = same_Some at to (sym is ∙ subst (λ (k : ℕ). addr_of net.first.ends (suc k) ≡ Some to) e there) in
      subst (λ (k : ℕ). Chain (HostLives config net.first.ends.server_addr to) (hosts k) (acts_of (suc k) more) (with_host hosts index node k)) (sym e)
      (subst (λ (x : Option NodeValue). Chain (HostLives config net.first.ends.server_addr to) (hosts index) (acts_of (suc index) more) x) (sym (host_here hosts index node))
      (subst (λ (s : Addr). Chain (HostLives config s to) (hosts index) (acts_of (suc index) more) (Some node)) (sym same)
      (subst (λ (a : Addr). Chain (HostLives config wire.ends.server_addr a) (hosts index) (acts_of (suc index) more) (Some node)) to_is g.host_lives)))
  hosts_on i to (inr ne) there =
      subst (λ (all : List Act). Chain (HostLives config net.first.ends.server_addr to) (hosts i) all (with_host hosts index node i)) (sym (g.others i ne)) (host_there hosts index node i ne)

  pub network_on : Network config addrs (before ++ more) last after (with_host hosts index node)
  network_on = let run = run_on net.goes g.goes in record {
    first = net.first;
    fresh = net.fresh;
    wires = run.0;
    goes = run.1;
    server_lives = subst (λ (all : List Act). Chain (ServerLives config) never_up all after) (sym (acts_of-append 0 before more)) (chain-append (ServerLives config) never_up server after (acts_of 0 before) (acts_of 0 more) net.server_lives g.server_lives);
    hosts_live = λ i to there. subst (λ (all : List Act). Chain (HostLives config net.first.ends.server_addr to) None all (with_host hosts index node i)) (sym (acts_of-append (suc i) before more))
        (chain-append (HostLives config net.first.ends.server_addr to) None (hosts i) (with_host hosts index node i) (acts_of (suc i) before) (acts_of (suc i) more) (net.hosts_live i to there) (hosts_on i to (cases_eq i index) there));
  }

  pub same_first : network_on.first ≡ net.first
  unfolding network_on
  same_first = refl

-- ---- the three acts

-- The server can grant what the host asks for, and the host may ask.
pub record Ready (config : ConfigValue) (wire : WorldValue) (server : ServerValue) (index : ℕ) (at : Addr) (node : NodeValue) (name : NameValue) (kind : Kind) (ttl : ℕ) : Type 0 where
  pub host_at : addr_of wire.ends (suc index) ≡ Some at
  pub can : CanGrant server (reading wire.now 0) at.ip (wish node name kind ttl)
  pub may : ask_refusal node (reading wire.now (suc index)) name ≡ None
  pub apart : AreDistinct node.slots
  pub server_is : node.server ≡ wire.ends.server_addr
  pub longest_is : server.table.config.longest ≡ config.longest
  pub longest : node.config.longest ≡ config.longest

pub no_denial : (server from : Addr) (r : Registration) (seconds : ℕ) → doubted server from (Some (registered 0 r)) (is_granted seconds) ≡ None
no_denial server from r seconds = by_test (same_end from server)
  where
    by_test : (b : Bool) → (if b && false then Some r.name else None) ≡ None
    by_test true = refl
    by_test false = refl

module _ (law : WrittenIsRead) {config : ConfigValue} (wire : WorldValue) {server : ServerValue} (index : ℕ) (at : Addr) {node : NodeValue} {name : NameValue} {kind : Kind} {ttl : ℕ} (ready : Ready config wire server index at node name kind ttl) where
  abbrev now : ℕ
  now = reading wire.now (suc index)

  abbrev to : Addr
  to = wire.ends.server_addr

  abbrev r : Registration
  r = wish node name kind ttl

  abbrev reply : Registration
  reply = record r { ttl = granted config.longest ttl }

  abbrev request_act : Act
  request_act = record { now = now; calls = sent (route_to to) (text (registration r)) ∷ [] }

  abbrev server_act : Act
  server_act = record { now = reading wire.now 0; calls = came (route_to at) (text (registration r)) ∷ sent (route_to at) (text (registered 0 reply)) ∷ [] }

  abbrev hearing_act : Act
  hearing_act = record { now = now; calls = came (route_to to) (text (registered 0 reply)) ∷ [] }

  -- what each does

  abbrev asked : NodeValue
  asked = asked_node node now name kind ttl

  abbrev pub got : NodeValue
  got = granted_node asked now kind ttl now (opened node.next_id now) reply

  abbrev pub leased : ServerValue
  leased = with_lease server (reading wire.now 0) r

  numbers : IsRegistration reply
  numbers = subst (λ (n : ℕ). IsRegistration (record r { ttl = granted n ttl })) ready.longest_is (reply_numbers server.table.config.longest r ready.can.longest ready.can.numbers)

  waits : Waits asked now kind ttl now (opened node.next_id now) reply
  waits = record {
    apart = asked_apart node now name kind ttl ready.may ready.apart;
    was = ap (settled node.config.life now) (asked_state node now name kind ttl ready.may ready.apart);
    first = refl;
    id = refl;
    longest = let least = ready.can.longest.0 in let a = ready.longest_is in let b = ready.longest in omega arith;
  }

  host_requests : HostActs to now node request_act.calls asked
  host_requests = requests (fresh (record { name = name; kind = kind; ttl = ttl })) (Some (text (registration r))) asked
      (asks (text (registration r)) asked refl refl (record { may = ready.may; sends = sends_wish node now name kind ttl ready.may law ready.can.numbers }))

  server_grants : ServerLives config (up server) server_act (up leased)
  server_grants =
      takes_turn (reading wire.now 0) (is_taken (reading wire.now 0) (route_to at) (text (registration r)) (Some (registered 0 reply))) server leased (refl, tt)
      (takes (reading wire.now 0) (route_to at) (text (registration r)) (Some (registered 0 reply)) leased
      (subst (λ (n : ℕ). ServerTakes server (reading wire.now 0) at.ip (text (registration r)) (Some (reply_to n r)) leased) ready.longest_is (grants law server (reading wire.now 0) at.ip r ready.can)))

  pub handles_reply : Handles asked now to (text (registered 0 reply)) got (is_granted (granted_by asked reply)) []
  handles_reply = subst (λ (a : Addr). Handles asked now a (text (registered 0 reply)) got (is_granted (granted_by asked reply)) []) ready.server_is (hears_grant asked now kind ttl now (opened node.next_id now) reply waits law numbers)

  pub reply_spells : Spells (text (registered 0 reply)) (registered 0 reply)
  reply_spells = written law (registered 0 reply) numbers (omega arith)

  host_hears : HostActs to now asked hearing_act.calls got
  host_hears =
      subst (λ (x : Option NameValue). HostActs to now asked hearing_act.calls (doubting got x)) (no_denial to to reply (granted_by asked reply))
      (hosts.hears hearing_act.calls (notice_of to to (Some (registered 0 reply)) (is_granted (granted_by asked reply))) _
      (hears (route_to to) (text (registered 0 reply)) [] (Some (registered 0 reply)) (is_granted (granted_by asked reply)) got
      handles_reply reply_spells))

  -- what of each is on the wire

  abbrev first_sent : Datagram
  first_sent = datagram at to wire.now (text (registration r))

  abbrev second_sent : Datagram
  second_sent = datagram to at wire.now (text (registered 0 reply))

  abbrev one : WorldValue
  one = record wire { sent = wire.sent ++ first_sent ∷ [] }

  abbrev two : WorldValue
  two = record one { sent = one.sent ++ second_sent ∷ [] }

  abbrev pub three : WorldValue
  three = record two { sent = two.sent ++ [] }

  on_wire : (wires : List WorldValue) × WireRun (getting wire index at r (granted config.longest ttl)) wire wires three
  on_wire = (
    _,
    goes_on wire one three (acts (suc index) request_act) _ _ (end_acts (suc index) at request_act ready.host_at refl (tt, tt))
        (goes_on one two three (acts 0 server_act) _ _ (end_acts 0 to server_act refl refl (of_an_end first_sent (Contains-push wire.sent first_sent) refl refl refl (omega arith), (tt, tt)))
        (goes_on two three three (acts (suc index) hearing_act) _ _ (end_acts (suc index) at hearing_act ready.host_at refl (of_an_end second_sent (Contains-push one.sent second_sent) refl refl refl (omega arith), tt))
        (ends three))),
  )

  -- whose acts they are

  abbrev last_one : List Happening
  last_one = acts (suc index) hearing_act ∷ []

  abbrev last_two : List Happening
  last_two = acts 0 server_act ∷ last_one

  abbrev all : List Happening
  all = acts (suc index) request_act ∷ last_two

  of_server : acts_of 0 all ≡ server_act ∷ []
  of_server = others_act 0 (suc index) request_act last_two no_suc ∙ own_act 0 server_act last_one ∙ ap (λ (rest : List Act). server_act ∷ rest) (others_act 0 (suc index) hearing_act [] no_suc)

  of_host : acts_of (suc index) all ≡ request_act ∷ hearing_act ∷ []
  of_host = own_act (suc index) request_act last_two ∙ ap (λ (rest : List Act). request_act ∷ rest) (others_act (suc index) 0 server_act last_one no_zero ∙ own_act (suc index) hearing_act [])

  of_none : (i : ℕ) → i ≢ index → acts_of (suc i) all ≡ []
  of_none i ne =
      let other : suc index ≢ suc i = λ e. ne (sym (ap pred e)) in
      others_act (suc i) (suc index) request_act last_two other ∙ others_act (suc i) 0 server_act last_one no_zero ∙ others_act (suc i) (suc index) hearing_act [] other

  pub three_acts : {host : Option NodeValue} → host ≡ Some node → GoesOn config wire (up server) host index at (getting wire index at r (granted config.longest ttl)) three (up leased) got
  three_acts {host} is = record {
    wires = on_wire.0;
    goes = on_wire.1;
    server_lives = subst (λ (own : List Act). Chain (ServerLives config) (up server) own (up leased)) (sym of_server) (up leased, server_grants, refl);
    host_lives = subst (λ (x : Option NodeValue). Chain (HostLives config to at) x (acts_of (suc index) all) (Some got)) (sym is)
        (subst (λ (own : List Act). Chain (HostLives config to at) (Some node) own (Some got)) (sym of_host) (Some asked, does now request_act.calls node asked host_requests, (Some got, does now hearing_act.calls asked got host_hears, refl)));
    others = of_none;
  }

  pub then_holds : held_by (Some got) name now ≡ Some kind
  then_holds = holds_granted asked now kind ttl now (opened node.next_id now) reply waits
