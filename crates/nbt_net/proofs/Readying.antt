-- In any network a host gets a name that it can get, and nothing else comes of its request.
use Rattle.std.proofs.Common.{◌≡◌, ℕ, suc, ◌+◌, ◌<◌, ◌≤◌, true, List, [], ◌∷◌, Option, Some, None, refl, sym, ap, subst, ◌∙◌}
use Rattle.std.specs.Prelude.{map, slice_index}
use Rattle.std.proofs.lemmas.Bool.{ne_eqb, lt-leb, le-ltb}
use Rattle.std.proofs.lemmas.Option.{same_Some}
use Rattle.nbt_name.specs.declared.addr.Addr.{Addr}
use Rattle.nbt_name.specs.Wire.{NameValue}
use Rattle.nbt_packet.specs.declared.message.Registration.{Registration}
use Rattle.nbt_packet.specs.Message.{MessageValue, registered, IsRegistration}
use Rattle.nbt_packet.specs.Text.{text}
use Rattle.nbt_lease.specs.Config.{ConfigValue, IsLongest, granted, milliseconds}
use Rattle.nbt_lease.specs.Drift.{quiet}
use Rattle.nbt_lease.specs.Lease.{leases_at, live_count, count_of, AreSound, IsSound}
use Rattle.nbt_server.specs.Serving.{ServerValue, speaks_from}
use Rattle.nbt_node.specs.declared.state.State.TheVariants.{Idle}
use Rattle.nbt_node.specs.declared.state.Slot.{Slot}
use Rattle.nbt_node.specs.Node.{NodeValue, has_room, slot_of, settled_slot, state_at}
use Rattle.nbt_node.specs.Settling.{settled}
use Rattle.nbt_node.specs.Calls.{ask_refusal}
use Rattle.nbt_port.specs.PortCalls.{came, route_to, Chain}
use Rattle.nbt_serve.specs.Serving.{is_taken, Turns}
use Rattle.nbt_host.specs.declared.goal.Goal.{Goal}
use Rattle.nbt_host.specs.Hosting.{is_wanted, Requests, HostHears}
use Rattle.nbt_world.specs.declared.ends.Ends.{Ends}
use Rattle.nbt_world.specs.Drift.{reading}
use Rattle.nbt_world.specs.World.{WorldValue, addr_of}
use Rattle.nbt_world.specs.Safety.{held_by}
use Rattle.nbt_world.specs.Inner.Kept.{IsNodeOf, IsServerOf}
use Rattle.nbt_world.proofs.Keeping.{addr_with, server_addr_with, node_with_here, latest-up}
use Rattle.nbt_net.specs.Wire.{Happening, WireStep, time_passes, end_acts, WireRun, ends, goes_on, acts_of}
use Rattle.nbt_net.specs.Hosts.{HostLives}
use Rattle.nbt_net.specs.Servers.{up, up_of}
use Rattle.nbt_net.specs.Reaching.{with_end}
use Rattle.nbt_net.specs.Getting.{Gets, GoesOnSo, getting, HostCanGet, IsGot, wanted_by, world_with}
use Rattle.nbt_net.proofs.Lives.{AllLaws, Led, led, filled}
use Rattle.nbt_net.proofs.Granting.{WrittenIsRead}
use Rattle.nbt_net.proofs.Asking.{wish}
use Rattle.nbt_net.proofs.Getting.{with_host, host_here, host_there, network_on, same_first, Ready, three, leased, got, three_acts, then_holds}
use Rattle.nbt_net.proofs.Surely.{OneAnswers, asks_so, replies_so, hears_so}

-- ---- a wire has the same ends always

step_stays : {a b : WorldValue} {happening : Happening} → WireStep a happening b → b.ends ≡ a.ends
step_stays (time_passes ms readings new adv) = ap (λ (w : WorldValue). w.ends) adv.others
step_stays (end_acts number at act there now_is comes) = refl

ends_stay : {a b : WorldValue} {happenings : List Happening} {wires : List WorldValue} → WireRun happenings a wires b → b.ends ≡ a.ends
ends_stay (ends wire) = refl
ends_stay (goes_on wire next last happening happenings wires step run) = ends_stay run ∙ step_stays step

-- ---- a host that can get a name

room_still : (life now : ℕ) (slots : List (Option Slot)) → has_room slots ≡ true → has_room (map (settled_slot life now) slots) ≡ true
room_still life now [] e = e
room_still life now (None ∷ rest) e = refl
room_still life now (Some slot ∷ rest) e = more (slot_of slot.name (settled life now slot.state)) (map (settled_slot life now) rest) (room_still life now rest e)
  where
    more : (x : Option Slot) (xs : List (Option Slot)) → has_room xs ≡ true → has_room (x ∷ xs) ≡ true
    more None xs e = refl
    more (Some s) xs e = e

module _ (laws : AllLaws) (law : WrittenIsRead) {config : ConfigValue} {addrs : List Addr} {before : List Happening} {wire : WorldValue} {server : ServerValue} {hosts : ℕ → Option NodeValue} {index : ℕ} {at : Addr} {node : NodeValue} (r : Registration)
    (h : HostCanGet config addrs before wire server hosts index at node r) where
  joined : Led config h.net.first wire [] (up server) hosts
  joined = led laws h.are_addrs h.net

  there : addr_of joined.ends (suc index) ≡ Some at
  there = joined.joins.addrs (suc index) ∙ h.host_at

  is_server : IsServerOf (filled wire joined.ends joined.written) server
  is_server = joined.joins.kept.server server (latest-up joined.ends server (ap (λ (e : Ends). e.server) joined.living.server_is ∙ ap up_of (sym joined.living.server_lives)))

  is_node : IsNodeOf (filled wire joined.ends joined.written) (suc index) at node
  is_node = joined.joins.kept.nodes (suc index) at node there (sym (joined.living.hosts_live index at there) ∙ h.host_is)

  server_is : h.can.server ≡ server
  server_is = same_Some h.can.server server (sym h.can.server_up)

  node_is : h.can.node ≡ node
  node_is = same_Some h.can.node node (sym h.can.node_up ∙ node_with_here (with_end wire.ends (up server)) index (Some node) at (server_addr_with wire.ends (Some server) None (suc index) ∙ h.host_at))

  longest_is : server.table.config.longest ≡ config.longest
  longest_is = is_server.longest_is ∙ ap (λ (c : ConfigValue). c.longest) joined.config_is

  wish_is : wish node r.name r.kind r.ttl ≡ r
  wish_is = ap (λ (id : ℕ). record r { id = id; addr = node.addr.ip }) (sym h.id_is) ∙ ap (λ (ip : ℕ). record r { addr = ip }) (ap (λ (a : Addr). a.ip) is_node.addr_is ∙ sym h.addr_is)

  may : ask_refusal node (reading wire.now (suc index)) r.name ≡ None
  may =
      let rests : node.start + quiet node.config.life < (reading wire.now (suc index)) = rw is_node.config_is (subst (λ (n : NodeValue). n.start + quiet wire.config.life < (reading wire.now (suc index))) node_is h.can.rested) in
      let idle : state_at node (reading wire.now (suc index)) r.name ≡ Idle = subst (λ (n : NodeValue). state_at n (reading wire.now (suc index)) r.name ≡ Idle) node_is h.can.idle in
      rw (
        le-ltb (reading wire.now (suc index)) node.last is_node.past,
        ne_eqb (slice_index r.name.octets 0) 42 h.can.no_star,
        idle,
        lt-leb (reading wire.now (suc index)) (node.start + quiet node.config.life) rests,
        room_still node.config.life (reading wire.now (suc index)) node.slots (subst (λ (n : NodeValue). has_room n.slots ≡ true) node_is h.can.slot),
      )
      refl

  ready : Ready config wire server index at node r.name r.kind r.ttl
  ready = record {
    host_at = h.host_at;
    can = record {
      later = is_server.past;
      speaks = subst (λ (s : ServerValue). speaks_from s ≤ reading wire.now 0) server_is h.can.speaks;
      own = (ap (λ (a : Addr). a.ip) is_node.addr_is, h.can.no_star);
      free = subst (λ (s : ServerValue). leases_at (reading wire.now 0) s.table.rows r.name ≡ []) server_is h.can.free;
      row = subst (λ (s : ServerValue). live_count (reading wire.now 0) s.table.rows < s.table.config.rows) server_is h.can.row;
      client_row = λ most limit. subst (λ (s : ServerValue). (n : ℕ) → s.client_rows ≡ Some n → count_of (reading wire.now 0) at.ip s.table.rows < n) server_is (λ n is. h.can.client_row n at is client_at) most limit;
      longest = subst IsLongest (sym is_server.longest_is) h.can.limits.longest;
      numbers = subst IsRegistration (sym wish_is) h.numbers;
    };
    may = may;
    apart = is_node.distinct;
    server_is = is_node.server_is ∙ same_Some joined.ends.server_addr wire.ends.server_addr (joined.joins.addrs 0);
    longest_is = longest_is;
    longest = ap (λ (c : ConfigValue). c.longest) (is_node.config_is ∙ joined.config_is);
  }
    where
      client_at : addr_of (world_with wire server index node).ends (suc index) ≡ Some at
      client_at = addr_with (with_end wire.ends (up server)) index (Some node) (suc index) ∙ server_addr_with wire.ends (Some server) None (suc index) ∙ h.host_at

  server_stays : h.net.first.ends.server_addr ≡ wire.ends.server_addr
  server_stays = ap (λ (e : Ends). e.server_addr) (sym (ends_stay h.net.goes))

  host_stays : addr_of h.net.first.ends (suc index) ≡ Some at
  host_stays = ap (λ (e : Ends). addr_of e (suc index)) (sym (ends_stay h.net.goes)) ∙ h.host_at

  gets_wish : Gets config addrs before wire index at (wish node r.name r.kind r.ttl)
  gets_wish = record {
    now = three law wire index at ready;
    server = up (leased law wire index at ready);
    hosts = with_host hosts index (got law wire index at ready);
    net = network_on h.net server_stays host_stays (three_acts law wire index at ready h.host_is);
    stays = refl;
    holds_it = ap (λ (x : Option NodeValue). held_by x r.name (reading wire.now (suc index))) (host_here hosts index (got law wire index at ready)) ∙ then_holds law wire index at ready;
  }

  goes_on_so : GoesOnSo h.net index at node (wish node r.name r.kind r.ttl)
  unfolding gets_wish
  goes_on_so = let on = three_acts law wire index at ready refl in record {
    gets = gets_wish;
    first_stays = same_first h.net server_stays host_stays (three_acts law wire index at ready h.host_is);
    server_goes_on = on.server_lives;
    host_goes_on = subst (λ (x : Option NodeValue). Chain (HostLives config wire.ends.server_addr at) (Some node) (acts_of (suc index) (getting wire index at (wish node r.name r.kind r.ttl) (granted config.longest r.ttl))) x) (sym (host_here hosts index (got law wire index at ready))) on.host_lives;
    others_stay = host_there hosts index (got law wire index at ready);
  }

  pub gets : GoesOnSo h.net index at node r
  gets = subst (λ (x : Registration). GoesOnSo h.net index at node x) wish_is goes_on_so

  -- ---- and nothing else comes of its request

  is_sound : IsSound server.table.config (reading wire.now 0) (leases_at (reading wire.now 0) server.table.rows)
  is_sound = subst (λ (longest : ℕ). (name : NameValue) → AreSound (reading wire.now 0 + milliseconds longest) (leases_at (reading wire.now 0) server.table.rows name)) (sym is_server.longest_is) is_server.sound

  pub is_got : OneAnswers → (goal : Goal) (octets : List ℕ) (asked : NodeValue) → goal.want ≡ wanted_by r → is_wanted goal.stage ≡ true → Requests (reading wire.now (suc index)) node goal (Some octets) asked
      → (reply : Option MessageValue) (after : ServerValue) → Turns server (is_taken (reading wire.now 0) (route_to at) octets reply) after → IsGot wire index asked r reply
  is_got once goal octets asked want wanted requests reply after turn =
      let same = asks_so law once wire index at ready goal octets asked want wanted requests in
      record {
        message = registered 0 (record (wish node r.name r.kind r.ttl) { ttl = granted config.longest r.ttl });
        reply_is = replies_so law once wire index at ready is_sound octets reply after same.1 turn;
        holds_it = λ calls notice new does. hears_so law once wire index at ready
            (subst (λ (n : NodeValue). HostHears wire.ends.server_addr (reading wire.now (suc index)) n (came (route_to wire.ends.server_addr) (text (registered 0 (record (wish node r.name r.kind r.ttl) { ttl = granted config.longest r.ttl }))) ∷ calls) notice new) same.0 does);
      }
