-- A new world comes to be one in which a name can be got.
use Rattle.std.proofs.Common.{◌≡◌, ℕ, suc, ◌*◌, ◌^◌, ◌<◌, ◌≤◌, [], List, Some, None, refl, sym, ap, subst, ◌∙◌, arith}
use Rattle.std.proofs.lemmas.Option.{none-some}
use Rattle.nbt_name.specs.declared.addr.Addr.{Addr}
use Rattle.nbt_name.specs.Wire.{NameValue, IsStar}
use Rattle.nbt_lease.specs.Config.{ConfigValue, IsConfig}
use Rattle.nbt_lease.specs.Drift.{quiet}
use Rattle.nbt_lease.specs.Lease.{Rows, leases_at, live_count}
use Rattle.nbt_server.specs.Serving.{ServerValue}
use Rattle.nbt_server.specs.Calls.{ServerStarts}
use Rattle.nbt_node.specs.Node.{NodeValue}
use Rattle.nbt_node.specs.Calls.{started}
use Rattle.nbt_world.specs.declared.ends.Ends.{Ends}
use Rattle.nbt_world.specs.declared.event.Event.TheVariants.{Tick, Start}
use Rattle.nbt_world.specs.declared.event.Outcome.{Outcome}
use Rattle.nbt_world.specs.Drift.{reading, later}
use Rattle.nbt_world.specs.World.{WorldValue, addr_of, IsEnd, node_of, with_server, with_node, IsFresh}
use Rattle.nbt_world.specs.Step.{Step, ticks, starts, starts_nothing, node_does, node_is_down, Advances, Starts, server_starts, node_starts}
use Rattle.nbt_world.specs.Getting.{CanGet}
use Rattle.nbt_world.proofs.Keeping.{addr_with, node_with_here, server_addr_with, server_node_with}

record ServerUp (w v : WorldValue) : Type 0 where
  server : ServerValue
  is : ServerStarts w.config (reading w.now 0) server
  world_is : v ≡ record w { ends = with_server w.ends (Some server) None }

begun_server : {w : WorldValue} {ends : Ends} → Starts w.config (reading w.now 0) w.ends 0 ends → ServerUp w (record w { ends = ends })
begun_server (server_starts server down is) = record { server = server; is = is; world_is = refl }

server_begins : {w v : WorldValue} {outcome : Outcome} → w.ends.server ≡ None → Step w (Start 0) outcome v → ServerUp w v
server_begins down (starts number ends s) = begun_server s
server_begins down (starts_nothing number off) = absurd (off down)
server_begins down (node_does event n node new given own up does) = absurd (none-some n own)
server_begins down (node_is_down event n own off) = absurd (none-some n own)

record NodeUp (w : WorldValue) (i : ℕ) (v : WorldValue) : Type 0 where
  addr : Addr
  at : addr_of w.ends (suc i) ≡ Some addr
  world_is : v ≡ record w { ends = with_node w.ends (suc i) (Some (started 14 addr w.ends.server_addr w.config (reading w.now (suc i)))) }

begun_node : {w : WorldValue} {i : ℕ} {ends : Ends} → Starts w.config (reading w.now (suc i)) w.ends (suc i) ends → NodeUp w i (record w { ends = ends })
begun_node (node_starts index addr at down) = record { addr = addr; at = at; world_is = refl }

node_begins : {w v : WorldValue} {i : ℕ} {outcome : Outcome} → IsEnd w.ends (suc i) → node_of w.ends (suc i) ≡ None → Step w (Start (suc i)) outcome v → NodeUp w i v
node_begins end down (starts number ends s) = begun_node s
node_begins end down (starts_nothing number off) = absurd (off (end.0, end.1, down))
node_begins end down (node_does event n node new given own up does) = absurd (none-some n own)
node_begins end down (node_is_down event n own off) = absurd (none-some n own)

time_passes : {w v : WorldValue} {ms : ℕ} {outcome : Outcome} → Step w (Tick ms) outcome v → Advances w ms (λ n. ms) v
time_passes (ticks ms new adv) = adv
time_passes (node_does event n node new given own up does) = absurd (none-some n own)
time_passes (node_is_down event n own off) = absurd (none-some n own)

none_leased : (now : ℕ) (rows : Rows) (name : NameValue) → rows ≡ [] → (leases_at now rows name ≡ []) × (live_count now rows ≡ 0)
unfolding leases_at live_count
none_leased now rows name e = rw e (refl, refl)

pub can_begin : {config : ConfigValue} {addrs : List Addr} {w a b c : WorldValue} {i ms : ℕ} {name : NameValue} {x y z : Outcome} → IsFresh config addrs w → IsConfig config → IsEnd w.ends (suc i) → (IsStar name → ⊥)
    → 1000 * config.longest ≤ ms → quiet config.life < ms → ms ≤ 2 ^ 60 → Step w (Start 0) x a → Step a (Start (suc i)) y b → Step b (Tick ms) z c → CanGet c (suc i) name
can_begin {config} {w = w} {a} {b} {c} {i} {ms} {name} {y = y} {z} fresh limits end star long rests most first second third =
    let s = server_begins fresh.no_server first in
    let v : WorldValue = record w { ends = with_server w.ends (Some s.server) None } in
    let n : NodeUp v i b =
    node_begins (end.0, server_addr_with w.ends (Some s.server) None (suc i) ∙ end.1) (server_node_with w.ends (Some s.server) None (suc i) ∙ fresh.no_node (suc i)) (subst (λ (u : WorldValue). Step u (Start (suc i)) y b) s.world_is second) in
    let node : NodeValue = started 14 n.addr w.ends.server_addr w.config (reading w.now (suc i)) in
    let u : WorldValue = record v { ends = with_node v.ends (suc i) (Some node) } in
    let adv : Advances u ms (λ k. ms) c = time_passes (subst (λ (x : WorldValue). Step x (Tick ms) z c) n.world_is third) in
    let began = s.is.start in
    let server_reads : reading c.now 0 ≡ ms = adv.readings 0 (w.ends.server_addr, refl) ∙ reads (reading w.now 0) (fresh.readings 0) in
    let node_reads : reading c.now (suc i) ≡ ms = adv.readings (suc i) (n.addr, addr_with v.ends i (Some node) (suc i) ∙ n.at) ∙ reads (reading w.now (suc i)) (fresh.readings (suc i)) in
    let at_zero = fresh.readings 0 in
    let node_at_zero = fresh.readings (suc i) in
    let config_is : s.server.table.config ≡ config = s.is.config_is ∙ fresh.config_is in
    let longest : s.server.table.config.longest ≡ config.longest = ap (λ (c : ConfigValue). c.longest) config_is in
    let room : s.server.table.config.rows ≡ config.rows = ap (λ (c : ConfigValue). c.rows) config_is in
    let leased = none_leased (reading c.now 0) s.server.table.rows name s.is.empty in
    let row = limits.rows.0 in
    subst (λ (x : WorldValue). CanGet x (suc i) name) (sym adv.others)
    (record {
      limits = rw fresh.config_is limits;
      server = s.server;
      server_up = refl;
      speaks = omega arith;
      free = leased.0;
      row = rw (leased.1, room) (omega arith);
      client_row = λ most addr limit at. absurd (none-some most (sym s.is.no_limit ∙ limit));
      node = node;
      node_up = node_with_here v.ends i (Some node) n.addr n.at;
      rested = rw fresh.config_is (omega arith);
      idle = refl;
      slot = refl;
      no_star = star;
    })
  where
    reads : (t : ℕ) → t ≡ 0 → later t ms ≡ ms
    reads t e = omega arith
