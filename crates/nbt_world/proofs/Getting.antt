-- A name that can be got is got: what each of the three steps makes of the world.
use Rattle.std.proofs.Common.{◌≡◌, ◌≢◌, ℕ, zero, suc, ◌+◌, ◌*◌, ◌<◌, ◌≤◌, true, false, List, [], ◌∷◌, ◌++◌, length, Option, Some, None, refl, sym, ap, subst, ◌∙◌, arith, length-append}
use Rattle.std.specs.Prelude.{slice_get, slice_index, map, Result, Ok, IfSome}
use Rattle.std.proofs.lemmas.Bool.{eq-eqb, ne_eqb, lt-ltb, lt-leb, le-ltb}
use Rattle.std.proofs.lemmas.Option.{none-some, same_Some}
use Rattle.nbt_name.specs.declared.addr.Addr.{Addr}
use Rattle.nbt_name.specs.declared.addr.Kind.{Kind}
use Rattle.nbt_name.specs.Wire.{NameValue, IsStar}
use Rattle.nbt_packet.specs.declared.message.Registration.{Registration}
use Rattle.nbt_packet.specs.Message.{MessageValue, registration, registered}
use Rattle.nbt_packet.specs.Text.{text}
use Rattle.nbt_packet.specs.Spelling.{Spells}
use Rattle.nbt_lease.specs.declared.lease.Lease.{Lease}
use Rattle.nbt_lease.specs.declared.lease.Grant.{Grant}
use Rattle.nbt_lease.specs.declared.fault.GrantFault.{GrantFault}
use Rattle.nbt_lease.specs.Config.{ConfigValue, granted}
use Rattle.nbt_lease.specs.Drift.{hold, quiet}
use Rattle.nbt_lease.specs.Lease.{TableValue, Leases, leases_at, live_count, count_of}
use Rattle.nbt_lease.specs.Rules.{Asked as Asking_for, GrantCase, active, renews, group_full, table_full, begins, free, grant_until, end_of}
use Rattle.nbt_server.specs.Serving.{ServerValue, speaks_from, Serves, ServesOctets}
use Rattle.nbt_server.specs.Serving as serving
use Rattle.nbt_node.specs.declared.state.State.{State}
use Rattle.nbt_node.specs.declared.state.State.TheVariants.{Asking, Held}
use Rattle.nbt_node.specs.declared.state.Slot.{Slot}
use Rattle.nbt_node.specs.declared.transaction.Transaction.{Transaction}
use Rattle.nbt_node.specs.Node.{NodeValue, AreDistinct, has_room, slot_of, settled_slot, state_of, state_at, held_at}
use Rattle.nbt_node.specs.Settling.{settled}
use Rattle.nbt_node.specs.Transaction.{opened}
use Rattle.nbt_node.specs.Moves.{Move, ask, hear, claim, held_for, granted_by, Told, asks as move_asks, granted_to, renewed_to, refused_to, loses_asked, loses_held, freed, asking_waits, giving_back_waits, refresh_waits, unmoved}
use Rattle.nbt_node.specs.Calls.{ask_refusal}
use Rattle.nbt_node.specs.Datagrams.{same_end, NodeHears, from_server, from_stranger, NodeTakes, NodeTakesOctets, spelled, unspelled}
use Rattle.nbt_node.proofs.Moving.{may_ask, asked_is, known_is}
use Rattle.nbt_world.specs.declared.clocks.Clocks.{Clocks}
use Rattle.nbt_world.specs.declared.ends.Ends.{Ends}
use Rattle.nbt_world.specs.declared.network.Datagram.{Datagram}
use Rattle.nbt_world.specs.declared.event.Event.TheVariants.{Ask, Deliver}
use Rattle.nbt_world.specs.declared.event.Outcome.{Outcome}
use Rattle.nbt_world.specs.declared.event.Outcome.TheVariants as o
use Rattle.nbt_world.specs.Drift.{reading}
use Rattle.nbt_world.specs.World.{WorldValue, addr_of, node_of, with_server, with_node, datagram}
use Rattle.nbt_world.specs.Step.{Step, node_does, node_is_down, no_datagram, no_end, too_late, delivered, NodeDoes, asks, ask_refused, CallOutcomeValue, after, TakenValue, takes, is_lost, EndTakes, finds_down, by_server, by_node, ServerDoes, server_takes, server_forgets, after_taking, outcome_of_taking}
use Rattle.nbt_world.specs.Safety.{holding, held_by}
use Rattle.nbt_world.specs.Getting.{CanGet}
use Rattle.nbt_world.specs.Inner.Kept.{IsNodeOf, Invariant}
use Rattle.nbt_world.specs.Inner.Handing.{HandsOver}
use Rattle.nbt_world.proofs.Keeping.{addr_there, addr_with, node_with_here, server_addr_with, server_node_with, latest-up}
use Rattle.nbt_world.proofs.Exact.{new_at}
use Rattle.nbt_world.proofs.Naming.{OneMessage, node_stays, stays_by_moves}

-- ---- a datagram of the list is delivered to the one end at its address

pub handed : {w v : WorldValue} {k number : ℕ} {d : Datagram} {outcome : Outcome} → slice_get w.sent k ≡ Some d → addr_of w.ends number ≡ Some d.to → d.moment ≡ w.now → ((n : ℕ) → addr_of w.ends n ≡ Some d.to → n ≡ number)
    → Step w (Deliver k) outcome v → HandsOver w number d.from d.to d.octets.items outcome v
handed {d = d} there at now only (no_datagram k none) = absurd (none-some d (sym none ∙ there))
handed {w} {number = number} {d} there at now only (no_end k x is off) = absurd (off number (at ∙ ap (λ (y : Datagram). Some y.to) (same_Some d x (sym there ∙ is))))
handed {w} {d = d} there at now only (too_late k x n is to late) =
    absurd (late (let e : x.moment.clock ≡ w.now.clock = ap (λ (y : Datagram). y.moment.clock) (same_Some x d (sym is ∙ there)) ∙ ap (λ (c : Clocks). c.clock) now in omega arith))
handed {w} {number = number} {d} there at now only (delivered k x n taken ends is to in_time t) =
    let e : x ≡ d = same_Some x d (sym is ∙ there) in
    let f : n ≡ number = only n (to ∙ ap (λ (y : Datagram). Some y.to) e) in
    record {
      taken = taken;
      ends = ends;
      takes = subst (λ (y : Datagram). EndTakes (reading w.now number) w.ends y.from y.octets.items number taken ends) e (subst (λ (m : ℕ). EndTakes (reading w.now m) w.ends x.from x.octets.items m taken ends) f t);
      outcome_is = refl;
      new_is = ap (λ (y : Datagram). after_taking w ends y.to y.from taken) e;
    }
handed there at now only (node_does event n node new given own up does) = absurd (none-some n own)
handed there at now only (node_is_down event n own down) = absurd (none-some n own)

-- ---- the node asks

abbrev wish : (id : ℕ) → NameValue → Kind → (ip ttl : ℕ) → Registration
wish id name kind ip ttl = record { id = id; name = name; kind = kind; addr = ip; ttl = ttl }

-- the world once a node has asked
abbrev asked_world : (w : WorldValue) (i : ℕ) (new : NodeValue) (addr : Addr) (octets : List ℕ) → WorldValue
asked_world w i new addr octets = record w { ends = with_node w.ends (suc i) (Some new); sent = w.sent ++ datagram addr w.ends.server_addr w.now octets ∷ [] }

record HasAsked (w : WorldValue) (i : ℕ) (name : NameValue) (kind : Kind) (ttl : ℕ) (v : WorldValue) : Type 0 where
  addr : Addr
  at : addr_of w.ends (suc i) ≡ Some addr
  new : NodeValue
  is : IsNodeOf w (suc i) addr new
  id : ℕ
  asking : state_of new name ≡ Asking kind ttl (reading w.now (suc i)) (opened id (reading w.now (suc i)))
  octets : List ℕ
  spells : Spells octets (registration (wish id name kind addr.ip ttl))
  world_is : v ≡ asked_world w i new addr octets

asked_move : {node : NodeValue} {now : ℕ} {name : NameValue} {s after : State} {kind : Kind} {ttl next : ℕ} {m : MessageValue} {told : Told} → Move node now name s (ask kind ttl) after (Some m) told next
    → (after ≡ Asking kind ttl now (opened node.next_id now)) × (m ≡ registration (claim node node.next_id name kind ttl))
asked_move (move_asks kind ttl rests) = (refl, refl)

asked_here : {w : WorldValue} {i : ℕ} {name : NameValue} {kind : Kind} {ttl : ℕ} {node new : NodeValue} {given : CallOutcomeValue} → Invariant w → node_of w.ends (suc i) ≡ Some node → ask_refusal node (reading w.now (suc i)) name ≡ None
    → NodeDoes node (reading w.now (suc i)) (Ask (suc i) name kind ttl) new given → HasAsked w i name kind ttl (after w (suc i) new given)
asked_here {w} {i} {name} {kind} {ttl} {node} {new} kept up can (asks n q k t x octets none sends) =
    let there = addr_there w.ends (suc i) node up in
    let was = kept.nodes (suc i) there.0 node there.1 up in
    let is : IsNodeOf w (suc i) there.0 new = node_stays (stays_by_moves sends.moves) was in
    let moved = asked_move sends.moves.move in
    let message : sends.message ≡ registration (wish node.next_id name kind (there.0).ip ttl) = moved.1 ∙ ap (λ (a : Addr). registration (wish node.next_id name kind a.ip ttl)) was.addr_is in
    record {
      addr = there.0;
      at = there.1;
      new = new;
      is = is;
      id = node.next_id;
      asking = asked_is node new (reading w.now (suc i)) name _ _ _ sends.moves was.distinct (may_ask node (reading w.now (suc i)) name (sym can)).room ∙ ap (settled node.config.life (reading w.now (suc i))) moved.0;
      octets = octets;
      spells = subst (λ (m : MessageValue). Spells octets m) message sends.written.1;
      world_is = λ j. record w { ends = with_node w.ends (suc i) (Some new); sent = w.sent ++ datagram (is.addr_is j) (was.server_is j) w.now octets ∷ [] };
    }
asked_here kept up can (ask_refused n q k t fault is) = absurd (none-some fault (sym can ∙ is))

room_still : (life now : ℕ) (slots : List (Option Slot)) → has_room slots ≡ true → has_room (map (settled_slot life now) slots) ≡ true
room_still life now [] e = e
room_still life now (None ∷ rest) e = refl
room_still life now (Some slot ∷ rest) e = more (slot_of slot.name (settled life now slot.state)) (map (settled_slot life now) rest) (room_still life now rest e)
  where
    more : (x : Option Slot) (xs : List (Option Slot)) → has_room xs ≡ true → has_room (x ∷ xs) ≡ true
    more None xs e = refl
    more (Some s) xs e = e

-- an ask isn't refused
can_ask : {w : WorldValue} {i : ℕ} {name : NameValue} → Invariant w → (can : CanGet w (suc i) name) → ask_refusal can.node (reading w.now (suc i)) name ≡ None
can_ask {w} {i} {name} kept can =
    let there = addr_there w.ends (suc i) can.node can.node_up in
    let is = kept.nodes (suc i) there.0 can.node there.1 can.node_up in
    let rested : can.node.start + quiet can.node.config.life < reading w.now (suc i) = rw is.config_is can.rested in
    rw (
      le-ltb (reading w.now (suc i)) can.node.last is.past,
      ne_eqb (slice_index name.octets 0) 42 can.no_star,
      can.idle,
      lt-leb (reading w.now (suc i)) (can.node.start + quiet can.node.config.life) rested,
      room_still can.node.config.life (reading w.now (suc i)) can.node.slots can.slot,
    )
    refl

has_asked : {w v : WorldValue} {i : ℕ} {name : NameValue} {kind : Kind} {ttl : ℕ} {outcome : Outcome} → Invariant w → CanGet w (suc i) name → Step w (Ask (suc i) name kind ttl) outcome v → HasAsked w i name kind ttl v
has_asked {w} {i = i} {name} {kind} {ttl} kept can (node_does event number node new given own up does) =
    subst (λ (m : ℕ). node_of w.ends m ≡ Some node → NodeDoes node (reading w.now m) (Ask (suc i) name kind ttl) new given → HasAsked w i name kind ttl (after w m new given)) (same_Some (suc i) number own)
    (λ here made. asked_here kept here (subst (λ (n : NodeValue). ask_refusal n (reading w.now (suc i)) name ≡ None) (same_Some can.node node (sym can.node_up ∙ here)) (can_ask kept can)) made) up does
has_asked {w} {i = i} kept can (node_is_down event number own down) =
    absurd (none-some can.node (sym down ∙ ap (node_of w.ends) (sym (same_Some (suc i) number own)) ∙ can.node_up))

-- ---- the server grants

no_item : (before after : List Lease) (x : Lease) → [] ≡ before ++ x ∷ after → ⊥
no_item [] after x e = cc
no_item (y ∷ before) after x e = cc

granted_free : {config : ConfigValue} {now count : ℕ} {a : Asking_for} {leases left : List Lease} {result : Result Grant GrantFault} → leases ≡ [] → count < config.rows → GrantCase config now count a leases result left
    → result ≡ Ok (grant_until config a (end_of config now a) false)
granted_free none few (active off) = absurd (off (free none))
granted_free none few (renews ok before after lease is own) = absurd (no_item before after lease (sym none ∙ is))
granted_free none few (group_full ok off full) = absurd (omega (arith, ap length none))
granted_free none few (table_full ok off small full) = absurd (omega arith)
granted_free none few (begins ok off small room) = refl

serves_free : {table : TableValue} {now id : ℕ} {name : NameValue} {kind : Kind} {ip ttl : ℕ} {reply : Option MessageValue} {left : Leases} → (IsStar name → ⊥) → leases_at now table.rows name ≡ [] → live_count now table.rows < table.config.rows
    → Serves table now ip (registration (wish id name kind ip ttl)) reply left → reply ≡ Some (registered 0 (wish id name kind ip (granted table.config.longest ttl)))
serves_free star none few (serving.registers m r result l (serving.by_registration x) own grants) = ap (λ (g : Result Grant GrantFault). Some (serving.grant_reply r g)) (granted_free none few grants.rule)
serves_free star none few (serving.refuses m r (serving.by_registration x) off) = absurd (off (refl, star))
serves_free star none few (serving.passes_over m is) = elim is [ ]

octets_free : OneMessage → {server : ServerValue} {now id : ℕ} {name : NameValue} {kind : Kind} {ip ttl : ℕ} {octets : List ℕ} {reply : Option MessageValue} {left : Leases} → Spells octets (registration (wish id name kind ip ttl)) → (IsStar name → ⊥)
    → speaks_from server ≤ now → leases_at now server.table.rows name ≡ [] → live_count now server.table.rows < server.table.config.rows → ((most : ℕ) → server.client_rows ≡ Some most → count_of now ip server.table.rows < most)
    → ServesOctets server now ip octets reply left
    → reply ≡ Some (registered 0 (wish id name kind ip (granted server.table.config.longest ttl)))
octets_free law spells star speaks none few room (serving.is_silent early) = absurd (omega arith)
octets_free law {id = id} {name} {kind} {ip} {ttl} spells star speaks none few room (serving.is_no_message off) = absurd (off (registration (wish id name kind ip ttl)) spells)
octets_free law spells star speaks none few room (serving.turns_away m spoke is over) = let within = room over.full.most over.full.most_is in let reached = over.full.reached in absurd (omega (arith, within, reached))
octets_free law {server} {now} {id} {name} {kind} {ip} {ttl} {octets} {reply} {left} spells star speaks none few room (serving.serves m p l spoke is admitted does) =
    serves_free star none few (subst (λ (k : MessageValue). Serves server.table now ip k reply left) (law octets m (registration (wish id name kind ip ttl)) is spells) does)

-- the world once the server has granted the name
abbrev granted_world : (w : WorldValue) (server : ServerValue) (addr : Addr) → MessageValue → WorldValue
granted_world w server addr reply = record w { ends = with_server w.ends (Some server) w.ends.crashed; sent = w.sent ++ datagram w.ends.server_addr addr w.now (text reply) ∷ [] }

record HasGranted (w : WorldValue) (addr : Addr) (id : ℕ) (name : NameValue) (kind : Kind) (ttl : ℕ) (v : WorldValue) : Type 0 where
  server : ServerValue
  spells : Spells (text (registered 0 (wish id name kind addr.ip (granted w.config.longest ttl)))) (registered 0 (wish id name kind addr.ip (granted w.config.longest ttl)))
  world_is : v ≡ granted_world w server addr (registered 0 (wish id name kind addr.ip (granted w.config.longest ttl)))

taken_granted : OneMessage → {w : WorldValue} {addr : Addr} {id : ℕ} {name : NameValue} {kind : Kind} {ttl : ℕ} {octets : List ℕ} {taken : TakenValue} {ends : Ends} {server : ServerValue} → Spells octets (registration (wish id name kind addr.ip ttl))
    → (IsStar name → ⊥) → w.ends.server ≡ Some server → server.table.config.longest ≡ w.config.longest → speaks_from server ≤ reading w.now 0 → leases_at (reading w.now 0) server.table.rows name ≡ [] → live_count (reading w.now 0) server.table.rows < server.table.config.rows
    → ((most : ℕ) → server.client_rows ≡ Some most → count_of (reading w.now 0) addr.ip server.table.rows < most) → (taken ≢ is_lost) → EndTakes (reading w.now 0) w.ends addr octets 0 taken ends → HasGranted w addr id name kind ttl (after_taking w ends w.ends.server_addr addr taken)
taken_granted law {server = server} spells star up longest speaks none few room kept (finds_down n down) = absurd (none-some server (sym down ∙ up))
taken_granted law {w} {addr} {id} {name} {kind} {ttl} {octets} {server = server} spells star up longest speaks none few room kept (by_server s new taken is does) = go (same_Some server s (sym up ∙ is)) taken does kept
  where
    go : server ≡ s → (taken : TakenValue) → ServerDoes (reading w.now 0) s addr.ip octets taken new → (taken ≢ is_lost) → HasGranted w addr id name kind ttl (after_taking w (with_server w.ends (Some new) w.ends.crashed) w.ends.server_addr addr taken)
    go same taken (server_forgets n forgets) kept = absurd (kept refl)
    go same taken (server_takes reply n t) kept =
        let of_longest : s.table.config.longest ≡ w.config.longest = ap (λ (x : ServerValue). x.table.config.longest) (sym same) ∙ longest in
        let is_granted : reply ≡ Some (registered 0 (wish id name kind addr.ip (granted w.config.longest ttl))) =
        octets_free law spells star
        (subst (λ (x : ServerValue). speaks_from x ≤ reading w.now 0) same speaks)
        (subst (λ (x : ServerValue). leases_at (reading w.now 0) x.table.rows name ≡ []) same none)
        (subst (λ (x : ServerValue). live_count (reading w.now 0) x.table.rows < x.table.config.rows) same few)
        (subst (λ (x : ServerValue). (most : ℕ) → x.client_rows ≡ Some most → count_of (reading w.now 0) addr.ip x.table.rows < most) same room)
        t.serves
        ∙ ap (λ (n : ℕ). Some (registered 0 (wish id name kind addr.ip (granted n ttl)))) of_longest in
        record {
          server = new;
          spells = subst (λ (r : Option MessageValue). IfSome r (λ m. Spells (text m) m)) is_granted t.spelled;
          world_is = ap (λ (r : Option MessageValue). after_taking w (with_server w.ends (Some new) w.ends.crashed) w.ends.server_addr addr (takes r)) is_granted;
        }

-- ---- the node hears that it holds the name

hold_positive : (seconds : ℕ) → 1 ≤ seconds → 0 < hold seconds
unfolding hold
hold_positive seconds le = omega arith

granted_positive : (longest ttl : ℕ) → 1 ≤ longest → 1 ≤ granted longest ttl
granted_positive longest zero le = le
granted_positive longest (suc t) le = omega arith

heard_move : {node : NodeValue} {now : ℕ} {name : NameValue} {s after : State} {kind : Kind} {ttl last next : ℕ} {p : Transaction} {r : Registration} {m : MessageValue} {told : Told} → s ≡ Asking kind ttl last p → r.id ≡ p.id → m ≡ registered 0 r
    → Move node now name s (hear m) after None told next → after ≡ held_for kind ttl p.first (granted_by node r) last
heard_move was id is (granted_to kind ttl last p r e) = cc
heard_move was id is (renewed_to kind ttl until renew last p r e) = absurd cc
heard_move was id is (refused_to kind ttl last rcode p r e ne) = let z : rcode ≡ 0 = cc in absurd (ne z)
heard_move was id is (loses_asked kind ttl last p r ne) = absurd cc
heard_move was id is (loses_held kind ttl until renew last rcode pending r ne either) = absurd cc
heard_move was id is (freed kind last rcode p n k a) = absurd cc
heard_move was id is (asking_waits kind ttl last p n t) = absurd cc
heard_move was id is (giving_back_waits kind last p n t) = absurd cc
heard_move was id is (refresh_waits kind ttl until renew last p n t) = absurd cc
heard_move {kind = kind} {ttl} {last} {p = p} {r} was id is (unmoved state m off) =
    let e = rw (was, is) at off in
    let t = rw (eq-eqb r.id p.id id) at e in
    absurd cc

same_self : (a : Addr) → same_end a a ≡ true
same_self a = rw (eq-eqb a.ip a.ip refl, eq-eqb a.port a.port refl) refl

-- a node that asks is told that it is granted what it asked for
record Hears (node : NodeValue) (now : ℕ) (from : Addr) (kind : Kind) (ttl last : ℕ) (p : Transaction) (r : Registration) : Type 0 where
  distinct : AreDistinct node.slots
  from_is : from ≡ node.server
  was : state_at node now r.name ≡ Asking kind ttl last p
  id : r.id ≡ p.id

record IsHeld (node : NodeValue) (now : ℕ) (new : NodeValue) (kind : Kind) (ttl last : ℕ) (p : Transaction) (r : Registration) : Type 0 where
  held : state_of new r.name ≡ settled node.config.life now (held_for kind ttl p.first (granted_by node r) last)
  last_is : new.last ≡ now

heard_it : {node new : NodeValue} {now : ℕ} {from : Addr} {kind : Kind} {ttl last : ℕ} {p : Transaction} {r : Registration} {sent : Option MessageValue} {told : Told} → Hears node now from kind ttl last p r
    → NodeHears node now from r.name (registered 0 r) new sent told → IsHeld node now new kind ttl last p r
heard_it {node} {new} {now} {r = r} h (from_server n told same moves) =
    record { held = known_is node new now r.name (hear (registered 0 r)) None told moves h.distinct (λ kind ttl e. cc) ∙ ap (settled node.config.life now) (heard_move h.was h.id refl moves.move); last_is = (stays_by_moves moves).last_is }
heard_it {node} {from = from} h (from_stranger n off passes) = let e = sym (same_self from) ∙ ap (same_end from) h.from_is ∙ off in absurd cc

heard_octets : OneMessage → {node new : NodeValue} {now : ℕ} {from : Addr} {kind : Kind} {ttl last : ℕ} {p : Transaction} {r : Registration} {octets : List ℕ} {sent : Option MessageValue} {told : Told} → Hears node now from kind ttl last p r
    → Spells octets (registered 0 r) → NodeTakesOctets node now from octets new sent told → IsHeld node now new kind ttl last p r
heard_octets law {node} {new} {now} {from} {r = r} {octets} {sent} {told} h spells (spelled m n s t is does) =
    heard_it h (subst (λ (k : MessageValue). NodeTakes node now from k new sent told) (law octets m (registered 0 r) is spells) does)
heard_octets law {r = r} h spells (unspelled n none passes) = absurd (none (registered 0 r) spells)

held_now : (life now until renew last ttl : ℕ) (kind : Kind) → now < until → held_at now (settled life now (Held kind ttl until renew last None)) ≡ Some kind
held_now life now until renew last ttl kind lt = rw (lt-leb until now lt, lt-ltb now until lt) refl

is_held : {node new : NodeValue} {now ttl last : ℕ} {kind : Kind} {p : Transaction} {r : Registration} → p.first ≡ now → 1 ≤ node.config.longest → IsHeld node now new kind ttl last p r → held_by (Some new) r.name now ≡ Some kind
is_held {node} {new} {now} {ttl} {last} {kind} {p} {r} first longest h =
    let some = hold_positive (granted_by node r) (granted_positive node.config.longest r.ttl longest) in
    rw (h.last_is, le-ltb now now (omega arith), h.held) (held_now node.config.life now (p.first + hold (granted_by node r)) (p.first + 500 * granted_by node r) last ttl kind (omega arith))

taken_held : OneMessage → (w : WorldValue) {i : ℕ} {node : NodeValue} {from to : Addr} {kind : Kind} {ttl last : ℕ} {p : Transaction} {r : Registration} {octets : List ℕ} {taken : TakenValue} {ends : Ends} → addr_of w.ends (suc i) ≡ Some to
    → node_of w.ends (suc i) ≡ Some node → Hears node (reading w.now (suc i)) from kind ttl last p r → p.first ≡ reading w.now (suc i) → 1 ≤ node.config.longest → Spells octets (registered 0 r)
    → EndTakes (reading w.now (suc i)) w.ends from octets (suc i) taken ends → holding (after_taking w ends to from taken) (suc i) r.name ≡ Some kind
taken_held law w {node = node} at up h first longest spells (finds_down n down) = absurd (none-some node (sym down.2 ∙ up))
taken_held law w {i} {node} {from} {to} {kind} {ttl} {last} {p} {r} {octets} at up h first longest spells (by_node j was new reply is hears) = as_taken reply held
  where
    same : node ≡ was
    same = same_Some node was (sym up ∙ is)

    held : held_by (node_of (with_node w.ends (suc i) (Some new)) (suc i)) r.name (reading w.now (suc i)) ≡ Some kind
    held = rw (node_with_here w.ends i (Some new) to at)
        (is_held first longest (heard_octets law h spells (subst (λ (n : NodeValue). NodeTakesOctets n (reading w.now (suc i)) from octets new hears.handles.sent hears.told) (sym same) hears.handles.takes)))

    as_taken : (x : Option MessageValue) → held_by (node_of (with_node w.ends (suc i) (Some new)) (suc i)) r.name (reading w.now (suc i)) ≡ Some kind
        → holding (after_taking w (with_node w.ends (suc i) (Some new)) to from (takes x)) (suc i) r.name ≡ Some kind
    as_taken None e = e
    as_taken (Some m) e = e

-- ---- the three steps

-- the request is handed to the server, which grants the name
got_granted : OneMessage → {a b c : WorldValue} {i : ℕ} {name : NameValue} {kind : Kind} {ttl : ℕ} {y : Outcome} → Invariant a → CanGet a (suc i) name → (h : HasAsked a i name kind ttl b) → Step b (Deliver (length a.sent)) y c → y ≢ o.Lost
    → HasGranted (asked_world a i h.new h.addr h.octets) h.addr h.id name kind ttl c
got_granted law {a} {b} {c} {i} {name} {kind} {ttl} {y} kept can h second memory =
    by_hand (handed {d = datagram h.addr a.ends.server_addr a.now h.octets} (new_at a.sent _) refl refl (λ n e. kept.ends.apart n 0 a.ends.server_addr a.ends.server_addr (sym (addr_with a.ends i (Some h.new) n) ∙ e) refl refl)
    (subst (λ (u : WorldValue). Step u (Deliver (length a.sent)) y c) {x = b} {y = asked_world a i h.new h.addr h.octets} h.world_is second))
  where
    by_hand : HandsOver (asked_world a i h.new h.addr h.octets) 0 h.addr a.ends.server_addr h.octets y c → HasGranted (asked_world a i h.new h.addr h.octets) h.addr h.id name kind ttl c
    by_hand hand =
        subst (λ (u : WorldValue). HasGranted (asked_world a i h.new h.addr h.octets) h.addr h.id name kind ttl u) {x = after_taking (asked_world a i h.new h.addr h.octets) hand.ends a.ends.server_addr h.addr hand.taken} {y = c} (sym hand.new_is)
        (taken_granted law h.spells can.no_star can.server_up (kept.server can.server (latest-up a.ends can.server can.server_up)).longest_is can.speaks can.free can.row (λ most limit. can.client_row most h.addr limit h.at)
        (λ e. memory (hand.outcome_is ∙ ap (outcome_of_taking (asked_world a i h.new h.addr h.octets)) e)) hand.takes)

-- the reply is handed to the node, which holds the name then
got_held : OneMessage → {a b c d : WorldValue} {i : ℕ} {name : NameValue} {kind : Kind} {ttl : ℕ} {z : Outcome} → Invariant a → CanGet a (suc i) name → (h : HasAsked a i name kind ttl b)
    → HasGranted (asked_world a i h.new h.addr h.octets) h.addr h.id name kind ttl c → Step c (Deliver (length a.sent + 1)) z d → holding d (suc i) name ≡ Some kind
got_held law {a} {b} {c} {d} {i} {name} {kind} {ttl} {z} kept can h g third =
    let v = asked_world a i h.new h.addr h.octets in
    let r = wish h.id name kind (h.addr).ip (granted a.config.longest ttl) in
    let place : length v.sent ≡ length a.sent + 1 = length-append a.sent _ in
    let at : addr_of (granted_world v g.server h.addr (registered 0 r)).ends (suc i) ≡ Some h.addr = server_addr_with v.ends (Some g.server) v.ends.crashed (suc i) ∙ addr_with a.ends i (Some h.new) (suc i) ∙ h.at in
    by_hand at
    (handed {d = datagram a.ends.server_addr h.addr a.now (text (registered 0 r))} (new_at v.sent _) at refl
    (λ n e. kept.ends.apart n (suc i) h.addr h.addr (sym (server_addr_with v.ends (Some g.server) v.ends.crashed n ∙ addr_with a.ends i (Some h.new) n) ∙ e) h.at refl)
    (subst (λ (x : WorldValue). Step x (Deliver (length v.sent)) z d) {x = c} {y = granted_world v g.server h.addr (registered 0 r)} g.world_is (subst (λ (k : ℕ). Step c (Deliver k) z d) {x = length a.sent + 1} {y = length v.sent} (sym place) third)))
  where
    by_hand : addr_of (granted_world (asked_world a i h.new h.addr h.octets) g.server h.addr (registered 0 (wish h.id name kind (h.addr).ip (granted a.config.longest ttl)))).ends (suc i) ≡ Some h.addr
        → HandsOver (granted_world (asked_world a i h.new h.addr h.octets) g.server h.addr (registered 0 (wish h.id name kind (h.addr).ip (granted a.config.longest ttl)))) (suc i) a.ends.server_addr h.addr
        (text (registered 0 (wish h.id name kind (h.addr).ip (granted a.config.longest ttl)))) z d
        → holding d (suc i) name ≡ Some kind
    by_hand at hand =
        let v = asked_world a i h.new h.addr h.octets in
        let r = wish h.id name kind (h.addr).ip (granted a.config.longest ttl) in
        let u = granted_world v g.server h.addr (registered 0 r) in
        subst (λ (x : WorldValue). holding x (suc i) name ≡ Some kind) {x = after_taking u hand.ends h.addr a.ends.server_addr hand.taken} {y = d} (sym hand.new_is)
        (taken_held law u {i = i} {node = h.new} {from = a.ends.server_addr} {to = h.addr} {kind = kind} {r = r} at (server_node_with v.ends (Some g.server) v.ends.crashed (suc i) ∙ node_with_here a.ends i (Some h.new) h.addr h.at)
        (record { distinct = h.is.distinct; from_is = sym h.is.server_is; was = ap (settled (h.new).config.life (reading a.now (suc i))) h.asking; id = refl }) refl
        (let least = can.limits.longest.0 in rw h.is.config_is least) g.spells hand.takes)

pub name_got : OneMessage → (a b c d : WorldValue) (number : ℕ) (name : NameValue) (kind : Kind) (ttl : ℕ) (x y z : Outcome) → Invariant a → CanGet a number name → Step a (Ask number name kind ttl) x b
    → Step b (Deliver (length a.sent)) y c → y ≢ o.Lost → Step c (Deliver (length a.sent + 1)) z d → holding d number name ≡ Some kind
name_got law a b c d zero name kind ttl x y z kept can first second memory third = absurd (none-some can.node can.node_up)
name_got law a b c d (suc i) name kind ttl x y z kept can first second memory third = by_asked (has_asked kept can first)
  where
    by_asked : HasAsked a i name kind ttl b → holding d (suc i) name ≡ Some kind
    by_asked h = got_held law kept can h (got_granted law kept can h second memory) third
