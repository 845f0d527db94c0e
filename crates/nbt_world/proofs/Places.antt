-- Ends by their numbers and places, and what a change of one of them leaves.
use Rattle.std.proofs.Common.{◌≡◌, ◌≢◌, ℕ, zero, suc, ◌-◌, ◌<◌, ◌≤◌, Bool, true, false, List, [], ◌∷◌, length, get_or, set, drop, Option, Some, None, refl, sym, ap, subst, ◌∙◌, arith, inl, inr}
use Rattle.std.specs.Prelude.{slice_get, is_some, IsSome, MatchBool}
use Rattle.std.specs.List.{refill}
use Rattle.std.specs.Option.{option_or}
use Rattle.std.proofs.lemmas.List.{take_at, length-set}
use Rattle.std.proofs.lemmas.Option.{slice_get_read, slice_get_past, none-some, same_Some}
use Rattle.std.proofs.lemmas.Bool.{cases_lt}
use Rattle.nbt_name.specs.declared.addr.Addr.{Addr}
use Rattle.nbt_packet.specs.Message.{MessageValue}
use Rattle.nbt_lease.specs.Config.{ConfigValue}
use Rattle.nbt_server.specs.Serving.{ServerValue}
use Rattle.nbt_server.specs.Calls.{ServerStarts}
use Rattle.nbt_node.specs.Node.{NodeValue}
use Rattle.nbt_node.specs.Calls.{started}
use Rattle.nbt_world.specs.declared.ends.NodeEnd.{NodeEnd}
use Rattle.nbt_world.specs.declared.ends.Ends.{Ends}
use Rattle.nbt_world.specs.World.{IsOfEnd, addr_at, addr_of, node_in, node_of, put_node, latest, with_server, with_node}
use Rattle.nbt_world.specs.Step.{IsDown, IsUp, Starts, server_starts, node_starts, Crashes, server_crashes, node_crashes, Resumes, server_resumes, TakenValue, is_down, takes, ServerDoes, NodeHandles, EndTakes, finds_down, by_server, by_node}

-- ---- numbers

-- a number that isn't 0 is one more than a place
pub place_from : (P : ℕ → Type 0) (n : ℕ) → n ≢ 0 → P (suc (n - 1)) → P n
place_from P n ne p = let e : suc (n - 1) ≡ n = omega arith in subst P e p

-- ---- the end at a place, as the code reads it and writes it back

-- The code has lent the nodes, as a list ys, and reads one of them, r.
pub record Reads (ends : Ends) (n : ℕ) (ys : List NodeEnd) (r : NodeEnd) : Type 0 where
  pub lent : ys ≡ ends.nodes.items
  pub is_node : n ≢ 0
  pub within : n ≤ length ends.nodes.items
  pub read : r ≡ get_or ys (n - 1) r

-- what the code leaves, with another end at that place
abbrev pub written_back : (ends : Ends) (n : ℕ) (ys : List NodeEnd) → NodeEnd → Ends
written_back ends n ys e = record ends { nodes = record { items = refill (length ends.nodes.items) ends.nodes.items (set ys (n - 1) e) } }

pub there : {ends : Ends} {n : ℕ} {ys : List NodeEnd} {r : NodeEnd} → Reads ends n ys r → slice_get ends.nodes.items (n - 1) ≡ Some (get_or ys (n - 1) r)
there {ends} {n} {ys} {r} reads =
    let is_node = reads.is_node in
    let within = reads.within in
    let same : r ≡ get_or ends.nodes.items (n - 1) r = rw reads.lent at reads.read in
    let lt : n - 1 < length ends.nodes.items = omega arith in
    subst (λ (x : NodeEnd). slice_get ends.nodes.items (n - 1) ≡ Some x) reads.read (slice_get_read ends.nodes.items (length ends.nodes.items) (n - 1) r refl lt same)

put_is_set : (nodes : List NodeEnd) (i : ℕ) (e : NodeEnd) (x : Option NodeValue) → slice_get nodes i ≡ Some e → set nodes i (record e { node = x }) ≡ put_node nodes i x
put_is_set [] i e x is = absurd (none-some e is)
put_is_set (end ∷ nodes) zero e x is = ap (λ (f : NodeEnd). record f { node = x } ∷ nodes) (sym (same_Some end e is))
put_is_set (end ∷ nodes) (suc i) e x is = ap (λ (rest : List NodeEnd). end ∷ rest) (put_is_set nodes i e x is)

refilled : (nodes ys : List NodeEnd) (i : ℕ) (e : NodeEnd) → ys ≡ nodes → refill (length nodes) nodes (set ys i e) ≡ set nodes i e
refilled nodes ys i e same =
    subst (λ (zs : List NodeEnd). refill (length nodes) nodes (set zs i e) ≡ set nodes i e) (sym same)
    (take_at (set nodes i e) (drop (length (set nodes i e)) nodes) (length nodes) (length-set nodes i e))

pub written_node : {ends : Ends} {n : ℕ} {ys : List NodeEnd} {r : NodeEnd} (x : Option NodeValue) → Reads ends n ys r
    → written_back ends n ys (record (get_or ys (n - 1) r) { node = x }) ≡ with_node ends n x
written_node {ends} {n} {ys} {r} x reads =
    place_from (λ m. written_back ends n ys (record (get_or ys (n - 1) r) { node = x }) ≡ with_node ends m x) n reads.is_node
    (ap (λ (items : List NodeEnd). record ends { nodes = record { items = items } })
    (refilled ends.nodes.items ys (n - 1) _ reads.lent ∙ put_is_set ends.nodes.items (n - 1) _ x (there reads)))

pub written_same : {ends : Ends} {n : ℕ} {ys : List NodeEnd} {r : NodeEnd} → Reads ends n ys r → written_back ends n ys (get_or ys (n - 1) r) ≡ ends
written_same {ends} {n} {ys} {r} reads =
    ap (λ (items : List NodeEnd). record ends { nodes = record { items = items } })
    (refilled ends.nodes.items ys (n - 1) _ reads.lent ∙ set_same ends.nodes.items (n - 1) _ (there reads))
  where
    set_same : (nodes : List NodeEnd) (i : ℕ) (e : NodeEnd) → slice_get nodes i ≡ Some e → set nodes i e ≡ nodes
    set_same [] i e is = refl
    set_same (end ∷ nodes) zero e is = ap (λ (f : NodeEnd). f ∷ nodes) (sym (same_Some end e is))
    set_same (end ∷ nodes) (suc i) e is = ap (λ (rest : List NodeEnd). end ∷ rest) (set_same nodes i e is)

pub node_read : {ends : Ends} {n : ℕ} {ys : List NodeEnd} {r : NodeEnd} → Reads ends n ys r → node_of ends n ≡ (get_or ys (n - 1) r).node
node_read {ends} {n} {ys} {r} reads =
    place_from (λ m. node_of ends m ≡ (get_or ys (n - 1) r).node) n reads.is_node (ap node_in (there reads))

pub addr_read : {ends : Ends} {n : ℕ} {ys : List NodeEnd} {r : NodeEnd} → Reads ends n ys r → addr_of ends n ≡ Some (get_or ys (n - 1) r).addr
addr_read {ends} {n} {ys} {r} reads =
    place_from (λ m. addr_of ends m ≡ Some (get_or ys (n - 1) r).addr) n reads.is_node
    (ap (λ (o : Option NodeEnd). addr_some o) (there reads))
  where
    addr_some : Option NodeEnd → Option Addr
    addr_some None = None
    addr_some (Some e) = Some e.addr

-- ---- which numbers there are

pub none_past : (ends : Ends) (n : ℕ) → length ends.nodes.items < n → (addr_of ends n ≡ None) × (node_of ends n ≡ None)
none_past ends n lt =
    place_from (λ m. (addr_of ends m ≡ None) × (node_of ends m ≡ None)) n (omega arith) (go (n - 1) (omega arith))
  where
    go : (i : ℕ) → length ends.nodes.items ≤ i → (addr_of ends (suc i) ≡ None) × (node_of ends (suc i) ≡ None)
    go i le = let past = slice_get_past ends.nodes.items i le in rw past (refl, refl)

pub within_from : (ends : Ends) (n : ℕ) → IsSome (addr_of ends n) → n ≢ 0 → n ≤ length ends.nodes.items
within_from ends n some ne = elim (cases_lt (length ends.nodes.items) n) [ inl lt ↦ absurd (is_none_some (addr_of ends n) (none_past ends n lt).0 some) | inr le ↦ le ]
  where
    is_none_some : (o : Option Addr) → o ≡ None → IsSome o → ⊥
    is_none_some None e s = cc
    is_none_some (Some a) e s = cc

-- ---- ends that start, crash and take

pub down_past : (ends : Ends) (n : ℕ) → length ends.nodes.items < n → ¬ IsDown ends n
down_past ends n lt = place_from (λ m. ¬ IsDown ends m) n (omega arith) (λ d. none-some d.0 (sym (none_past ends (suc (n - 1)) (omega arith)).0 ∙ d.1))

pub up_past : (ends : Ends) (n : ℕ) → length ends.nodes.items < n → ¬ IsUp ends n
up_past ends n lt = place_from (λ m. ¬ IsUp ends m) n (omega arith) (λ u. none-some u.0 (sym (none_past ends (suc (n - 1)) (omega arith)).1 ∙ u.1))

is_there : {X : Type 0} (o : Option X) → is_some o ≡ true → (x : X) × (o ≡ Some x)
is_there None e = absurd cc
is_there (Some x) e = (x, refl)

is_nothing : {X : Type 0} (o : Option X) → is_some o ≡ false → o ≡ None
is_nothing None e = refl
is_nothing (Some s) e = absurd cc

pub server_crashed : (ends : Ends) (n : ℕ) → n ≡ 0 → is_some ends.server ≡ true → Crashes ends n (with_server ends None ends.server)
server_crashed ends n e is =
    let s = is_there ends.server is in
    subst (λ (m : ℕ). Crashes ends m (with_server ends None ends.server)) (sym e)
    (subst (λ (o : Option ServerValue). Crashes ends 0 (with_server ends None o)) (sym s.1) (server_crashes s.0 s.1))

pub server_resumed : (ends : Ends) → is_some ends.server ≡ false → is_some ends.crashed ≡ true → (now : ℕ) → ((was : ServerValue) → latest ends ≡ Some was → was.last ≤ now) → Resumes now ends (with_server ends ends.crashed None)
server_resumed ends down is now past =
    let s = is_there ends.crashed is in
    let on = past s.0 (λ i. option_or (is_nothing ends.server down i) (s.1 i)) in
    subst (λ (o : Option ServerValue). Resumes now ends (with_server ends o None)) (sym s.1)
    (server_resumes s.0 s.0 (is_nothing ends.server down) s.1 (record { leases = refl; start = refl; config = refl; limit = refl; was_called = on; called = on }))

pub node_crashed : (ends : Ends) (n : ℕ) (ys : List NodeEnd) (r : NodeEnd) (b : Bool) (e : NodeEnd) → Reads ends n ys r
    → MatchBool b (IsSome (get_or ys (n - 1) r).node × (e ≡ record (get_or ys (n - 1) r) { node = None })) (((get_or ys (n - 1) r).node ≡ None) × (e ≡ get_or ys (n - 1) r))
    → MatchBool b (Crashes ends n (written_back ends n ys e)) ((¬ IsUp ends n) × (written_back ends n ys e ≡ ends))
node_crashed ends n ys r true e reads is =
    let node = is_there (get_or ys (n - 1) r).node is.0 in
    let left : written_back ends n ys e ≡ with_node ends n None = ap (λ (x : NodeEnd). written_back ends n ys x) is.1 ∙ written_node None reads in
    let up : node_of ends n ≡ Some node.0 = node_read reads ∙ node.1 in
    subst (λ (x : Ends). Crashes ends n x) (sym left) (place_from (λ m. node_of ends m ≡ Some node.0 → Crashes ends m (with_node ends m None)) n reads.is_node (λ at. node_crashes (n - 1) node.0 at) up)
node_crashed ends n ys r false e reads is = (
  place_from (λ m. node_of ends m ≡ None → ¬ IsUp ends m) n reads.is_node (λ down u. none-some u.0 (sym down ∙ u.1)) (node_read reads ∙ is.0),
  ap (λ (x : NodeEnd). written_back ends n ys x) is.1 ∙ written_same reads,
)

pub server_took : {now n : ℕ} {ends : Ends} {from : Addr} {octets : List ℕ} {server new : ServerValue} {taken : TakenValue} → n ≡ 0 → ends.server ≡ Some server
    → ServerDoes now server from.ip octets taken new → EndTakes now ends from octets n taken (with_server ends (Some new) ends.crashed)
server_took {now} {ends = ends} {from} {octets} {server} {new} {taken} e is does = subst (λ (m : ℕ). EndTakes now ends from octets m taken (with_server ends (Some new) ends.crashed)) (sym e) (by_server server new taken is does)

pub server_is_down : {now n : ℕ} {ends : Ends} {from : Addr} {octets : List ℕ} → n ≡ 0 → ends.server ≡ None → EndTakes now ends from octets n is_down ends
server_is_down {n = n} {ends} e is = finds_down n (subst (λ (m : ℕ). IsDown ends m) (sym e) is)

pub node_took : {now n : ℕ} {ends : Ends} {from : Addr} {octets : List ℕ} {ys : List NodeEnd} {r : NodeEnd} {node new : NodeValue} {reply : Option MessageValue} → Reads ends n ys r
    → (get_or ys (n - 1) r).node ≡ Some node → NodeHandles now node from octets reply new
    → EndTakes now ends from octets n (takes reply) (written_back ends n ys (record (get_or ys (n - 1) r) { node = Some new }))
node_took {now} {n} {ends} {from} {octets} {node = node} {new} {reply} reads is hears =
    subst (λ (x : Ends). EndTakes now ends from octets n (takes reply) x) (sym (written_node (Some new) reads))
    (place_from (λ m. node_of ends m ≡ Some node → EndTakes now ends from octets m (takes reply) (with_node ends m (Some new))) n reads.is_node (λ up. by_node (n - 1) node new reply up hears) (node_read reads ∙ is))

pub node_is_down : {now n : ℕ} {ends : Ends} {from : Addr} {octets : List ℕ} {ys : List NodeEnd} {r : NodeEnd} → Reads ends n ys r → (get_or ys (n - 1) r).node ≡ None
    → EndTakes now ends from octets n is_down (written_back ends n ys (get_or ys (n - 1) r))
node_is_down {now} {n} {ends} {from} {octets} {ys} {r} reads is =
    subst (λ (x : Ends). EndTakes now ends from octets n is_down x) (sym (written_same reads))
    (finds_down n (place_from (λ m. addr_of ends m ≡ Some (get_or ys (n - 1) r).addr → node_of ends m ≡ None → IsDown ends m) n reads.is_node (λ at down. ((get_or ys (n - 1) r).addr, at, down)) (addr_read reads) (node_read reads ∙ is)))

pub server_started : {config : ConfigValue} {now n : ℕ} {ends : Ends} {server : ServerValue} → n ≡ 0 → is_some ends.server ≡ false → ServerStarts config now server
    → Starts config now ends n (with_server ends (Some server) None)
server_started {config} {now} {ends = ends} {server} e is new =
    subst (λ (m : ℕ). Starts config now ends m (with_server ends (Some server) None)) (sym e) (server_starts server (is_nothing ends.server is) new)

pub node_started : (config : ConfigValue) (now : ℕ) (ends : Ends) (n : ℕ) (ys : List NodeEnd) (r : NodeEnd) (b : Bool) (e : NodeEnd) → Reads ends n ys r
    → MatchBool b (((get_or ys (n - 1) r).node ≡ None) × (e ≡ record (get_or ys (n - 1) r) { node = Some (started 14 (get_or ys (n - 1) r).addr ends.server_addr config now) }))
    (IsSome (get_or ys (n - 1) r).node × (e ≡ get_or ys (n - 1) r))
    → MatchBool b (Starts config now ends n (written_back ends n ys e)) ((¬ IsDown ends n) × (written_back ends n ys e ≡ ends))
node_started config now ends n ys r true e reads is =
    let left : written_back ends n ys e ≡ with_node ends n (Some (started 14 (get_or ys (n - 1) r).addr ends.server_addr config now)) =
    ap (λ (x : NodeEnd). written_back ends n ys x) is.1 ∙ written_node _ reads in
    subst (λ (x : Ends). Starts config now ends n x) (sym left)
    (place_from (λ m. addr_of ends m ≡ Some (get_or ys (n - 1) r).addr → node_of ends m ≡ None → Starts config now ends m (with_node ends m (Some (started 14 (get_or ys (n - 1) r).addr ends.server_addr config now)))) n reads.is_node
    (λ at down. node_starts (n - 1) (get_or ys (n - 1) r).addr at down) (addr_read reads) (node_read reads ∙ is.0))
node_started config now ends n ys r false e reads is =
    let node = is_there (get_or ys (n - 1) r).node is.0 in (
      place_from (λ m. node_of ends m ≡ Some node.0 → ¬ IsDown ends m) n reads.is_node (λ up d. none-some node.0 (sym d.2 ∙ up)) (node_read reads ∙ node.1),
      ap (λ (x : NodeEnd). written_back ends n ys x) is.1 ∙ written_same reads,
    )

-- ---- 32-bit addresses

pub is_of_end : (ends : Ends) (ip : ℕ) → (ends.server_addr.ip ≡ ip → ⊥) → IsOfEnd ends ip → (index : ℕ) × (addr : Addr) × (addr_at ends.nodes.items index ≡ Some addr) × (addr.ip ≡ ip)
is_of_end ends ip ne is = go is.0 is.1 is.2 is.3
  where
    go : (n : ℕ) (addr : Addr) → addr_of ends n ≡ Some addr → addr.ip ≡ ip → (index : ℕ) × (addr : Addr) × (addr_at ends.nodes.items index ≡ Some addr) × (addr.ip ≡ ip)
    go zero addr at same = absurd (ne (ap (λ (a : Addr). a.ip) (same_Some ends.server_addr addr at) ∙ same))
    go (suc i) addr at same = (i, addr, at, same)
