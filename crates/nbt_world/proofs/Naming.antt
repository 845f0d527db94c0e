-- What a world keeps when one node has moved: each name by time alone, but one that asks, sends again or hears.
use Rattle.std.proofs.Common.{◌≡◌, ℕ, suc, List, [], ◌∷◌, ◌++◌, Option, Some, None, sym, ap, subst, ◌∙◌, arith, inl, inr}
use Rattle.std.specs.Prelude.{Contains, IsTrue, ◌⊎◌}
use Rattle.std.proofs.lemmas.List.Elements.{Contains-push_cases, Contains-append_left}
use Rattle.std.proofs.lemmas.Option.{same_Some}
use Rattle.nbt_name.specs.declared.addr.Addr.{Addr}
use Rattle.nbt_name.specs.Wire.{NameValue}
use Rattle.nbt_packet.specs.Message.{MessageValue, registration, overwrite, refresh, release, query, status_request, registered, released, found, not_found, status, wait}
use Rattle.nbt_packet.specs.declared.message.Registration.{Registration}
use Rattle.nbt_packet.specs.Text.{text}
use Rattle.nbt_packet.specs.Spelling.{Spells}
use Rattle.nbt_lease.specs.Config.{ConfigValue}
use Rattle.nbt_node.specs.declared.state.State.{State}
use Rattle.nbt_node.specs.Node.{NodeValue, state_of, state_at}
use Rattle.nbt_node.proofs.Moving.{moved_apart}
use Rattle.nbt_node.specs.Moves.{NameEvent, hear, Told, NameMoves}
use Rattle.nbt_world.specs.declared.clocks.Clocks.{Clocks}
use Rattle.nbt_world.specs.declared.network.Datagram.{Datagram}
use Rattle.nbt_world.specs.Drift.{reading}
use Rattle.nbt_world.specs.World.{WorldValue, addr_of, node_of, with_node}
use Rattle.nbt_world.specs.Inner.Kept.{IsRequest, Asked, Replied, known, RequestsEnded, RepliesFresh, IsNodeOf, IsSent, Invariant}
use Rattle.nbt_world.proofs.Knowing.{Stays, Moved, Within, IsMore, ArePast, past-more, knows, ended-settled, ended-heard, ended-frame, ended-sent, is_sent, fresh-settled, fresh-heard, fresh-frame, fresh-sent}
use Rattle.nbt_world.proofs.Claiming.{IsListed, claims_by_time, claims_sends, claims_hears}
use Rattle.nbt_world.proofs.Drifting.{RestLaw, asked_are_past}
use Rattle.nbt_world.proofs.Keeping.{IsNew, Grows, Adds, adds_nothing, no_reply_more, asked_still, asked_among, addr_there}
use Rattle.nbt_world.proofs.Covering.{NameKept, node_kept}

-- the law of messages that this rests on
abbrev pub OneMessage : Type 0
OneMessage = (octets : List ℕ) (m n : MessageValue) → Spells octets m → Spells octets n → m ≡ n

-- and with it the law of rests
pub record Laws : Type 0 where
  pub one_message : OneMessage
  pub rests : RestLaw

-- ---- names

-- a request is about one name
pub request_one : (m : MessageValue) (a b : NameValue) → IsRequest a m → IsRequest b m → a ≡ b
request_one (registration r) a b p q = sym p ∙ q
request_one (overwrite r) a b p q = elim p [ ]
request_one (refresh r) a b p q = sym p ∙ q
request_one (release id name kind addr) a b p q = sym p ∙ q
request_one (query id name) a b p q = elim p [ ]
request_one (status_request id name) a b p q = elim p [ ]
request_one (registered rcode r) a b p q = elim p [ ]
request_one (released id rcode name kind addr) a b p q = elim p [ ]
request_one (found id name ttl entries cut) a b p q = elim p [ ]
request_one (not_found id rcode name) a b p q = elim p [ ]
request_one (status id name names) a b p q = elim p [ ]
request_one (wait id name ttl) a b p q = elim p [ ]

-- a request is no overwrite
pub request_no_overwrite : (m : MessageValue) (name : NameValue) → IsRequest name m → (r : Registration) → m ≡ overwrite r → ⊥
request_no_overwrite m name is r e = subst (λ (k : MessageValue). IsRequest name k) e is

-- ---- one datagram more

-- a datagram that an end sends now
pub record Sending (w : WorldValue) (addr : Addr) (d : Datagram) (m : MessageValue) : Type 0 where
  pub from_is : d.from ≡ addr
  pub now_is : d.moment ≡ w.now
  pub written : d.octets.items ≡ text m
  pub spelled : Spells d.octets.items m
  pub no_overwrite : (r : Registration) → m ≡ overwrite r → ⊥

pub is_new : OneMessage → {w : WorldValue} {addr : Addr} {d : Datagram} {m : MessageValue} → Invariant w → (n : ℕ) → addr_of w.ends n ≡ Some addr → Sending w addr d m → IsNew w addr (w.sent ++ d ∷ [])
is_new law {w} {addr} {d} {m} kept n at s x c = go (Contains-push_cases w.sent d x c)
  where
    is : IsSent w.ends w.now w.least d
    is = record {
      number = n;
      message = m;
      past = rw s.now_is (omega arith);
      seen = λ k e. rw s.now_is (kept.clocks.seen k e);
      sender = at ∙ ap Some (sym s.from_is);
      written = s.written;
      spelled = s.spelled;
      only = λ k spells. law d.octets.items k m spells s.spelled;
      no_overwrite = s.no_overwrite;
    }

    go : Contains w.sent x ⊎ (d ≡ x) → Contains w.sent x ⊎ ((x.from ≡ addr) × IsSent w.ends w.now w.least x)
    go (inl c) = inl c
    go (inr e) = inr (subst (λ (y : Datagram). (y.from ≡ addr) × IsSent w.ends w.now w.least y) e (s.from_is, is))

pub nothing_new : (w : WorldValue) (addr : Addr) → IsNew w addr w.sent
nothing_new w addr d c = inl c

-- what the network then has of requests: what it had, and this message where it is one
asks_more : OneMessage → {w : WorldValue} {addr : Addr} {d : Datagram} {m : MessageValue} → Sending w addr d m → {ip : ℕ} {q : NameValue} {moment : Clocks} {message : MessageValue} → Asked (w.sent ++ d ∷ []) ip q moment message
    → Asked w.sent ip q moment message ⊎ ((moment ≡ w.now) × (message ≡ m) × IsRequest q m)
asks_more law {w} {d = d} {m = m} s {q = q} {message = message} a =
    elim (Contains-push_cases w.sent d a.datagram a.among) [
      | inl c ↦ inl (asked_among a c)
      | inr e ↦
          let same = law d.octets.items message m (subst (λ (y : Datagram). Spells y.octets.items message) (sym e) a.spelled) s.spelled in
          inr (sym a.moment_is ∙ ap (λ (y : Datagram). y.moment) (sym e) ∙ s.now_is, same, subst (λ (k : MessageValue). IsRequest q k) same a.request)
    ]

-- the name that the message is about, and the others, of which nothing was said
pub own_more : OneMessage → {w : WorldValue} {addr : Addr} {d : Datagram} {m : MessageValue} → Sending w addr d m → (n : ℕ) {ip : ℕ} {q : NameValue} → IsMore n (reading w.now n) m (Asked w.sent ip q) (Asked (w.sent ++ d ∷ []) ip q)
own_more law s n moment message a = elim (asks_more law s a) [ inl old ↦ inl old | inr is ↦ inr (ap (λ (c : Clocks). reading c n) is.0, is.1) ]

pub others_fewer : OneMessage → {w : WorldValue} {addr : Addr} {d : Datagram} {m : MessageValue} → Sending w addr d m → {ip : ℕ} {q : NameValue} → (IsRequest q m → ⊥) → Within (Asked (w.sent ++ d ∷ []) ip q) (Asked w.sent ip q)
others_fewer law s off moment message a = elim (asks_more law s a) [ inl old ↦ old | inr is ↦ absurd (off is.2) ]

-- a list that has grown by one
pub grows_by : (old : List Datagram) (d : Datagram) → Grows old (old ++ d ∷ [])
grows_by old d x c = Contains-append_left old (d ∷ []) x c

-- ---- one node has moved

-- The node of a number in a world: where it is, and what holds of it.
pub record UpAt (w : WorldValue) (i : ℕ) (node : NodeValue) : Type 0 where
  pub kept : Invariant w
  pub addr : Addr
  pub at : addr_of w.ends (suc i) ≡ Some addr
  pub up : node_of w.ends (suc i) ≡ Some node
  pub is : IsNodeOf w (suc i) addr node
  pub past : IsTrue w.timely → (q : NameValue) → ArePast node.config.life (suc i) w.now.clock (reading w.now (suc i)) (Asked w.sent addr.ip q)
  pub requests : IsTrue w.timely → (q : NameValue) → RequestsEnded node.config.life (suc i) w.now.clock (reading w.now (suc i)) (Asked w.sent addr.ip q) (known (Some node) q)
  pub replies : IsTrue w.timely → (q : NameValue) → RepliesFresh node.config.life (suc i) w.now.clock (reading w.now (suc i)) (Asked w.sent addr.ip q) (Replied w.sent w.ends.server_addr addr q) (known (Some node) q)

pub up_at : RestLaw → {w : WorldValue} {node : NodeValue} (i : ℕ) → Invariant w → node_of w.ends (suc i) ≡ Some node → UpAt w i node
up_at law {w} {node} i kept up =
    let there = addr_there w.ends (suc i) node up in
    let is = kept.nodes (suc i) there.0 node there.1 up in
    record {
      kept = kept;
      addr = there.0;
      at = there.1;
      up = up;
      is = is;
      past = λ on q.
          subst (λ (c : ConfigValue). ArePast c.life (suc i) w.now.clock (reading w.now (suc i)) (Asked w.sent (there.0).ip q)) (sym is.config_is)
          (asked_are_past law kept.clocks on kept.sent (suc i) there);
      requests = λ on q.
          subst (λ (c : ConfigValue). RequestsEnded c.life (suc i) w.now.clock (reading w.now (suc i)) (Asked w.sent (there.0).ip q) (known (Some node) q)) (sym is.config_is)
          (subst (λ (x : Option NodeValue). RequestsEnded w.config.life (suc i) w.now.clock (reading w.now (suc i)) (Asked w.sent (there.0).ip q) (known x q)) up (kept.requests on (suc i) there.0 q there.1));
      replies = λ on q.
          subst (λ (c : ConfigValue). RepliesFresh c.life (suc i) w.now.clock (reading w.now (suc i)) (Asked w.sent (there.0).ip q) (Replied w.sent w.ends.server_addr there.0 q) (known (Some node) q)) (sym is.config_is)
          (subst (λ (x : Option NodeValue). RepliesFresh w.config.life (suc i) w.now.clock (reading w.now (suc i)) (Asked w.sent (there.0).ip q) (Replied w.sent w.ends.server_addr there.0 q) (known x q)) up
          (kept.replies on (suc i) there.0 q there.1));
    }

pub node_stays : {w : WorldValue} {n : ℕ} {addr : Addr} {old new : NodeValue} → Stays old (reading w.now n) new → IsNodeOf w n addr old → IsNodeOf w n addr new
node_stays stays is = record {
  addr_is = stays.addr_is ∙ is.addr_is;
  server_is = stays.server_is ∙ is.server_is;
  config_is = stays.config_is ∙ is.config_is;
  distinct = stays.distinct_still is.distinct;
  past = let e = stays.last_is in omega arith;
}

pub stays_by_moves : {now : ℕ} {old new : NodeValue} {name : NameValue} {event : NameEvent} {sent : Option MessageValue} {told : Told} → NameMoves old now name event new sent told → Stays old now new
stays_by_moves {now} {old} {new} {name} {event} {sent} {told} moves = record {
  addr_is = ap (λ (n : NodeValue). n.addr) moves.node;
  server_is = ap (λ (n : NodeValue). n.server) moves.node;
  config_is = ap (λ (n : NodeValue). n.config) moves.node;
  start_is = ap (λ (n : NodeValue). n.start) moves.node;
  last_is = ap (λ (n : NodeValue). n.last) moves.node;
  distinct_still = moved_apart old new now name event sent told moves;
}

-- nothing more in the list, and a datagram more, which the node has sent now
pub adds_none : {w : WorldValue} {i : ℕ} {node : NodeValue} (at : UpAt w i node) → Adds w i at.addr w.sent
adds_none {i = i} at = adds_nothing i at.kept at.at

pub adds_one : OneMessage → {w : WorldValue} {i : ℕ} {node : NodeValue} (at : UpAt w i node) {d : Datagram} {m : MessageValue} → Sending w at.addr d m → Adds w i at.addr (w.sent ++ d ∷ [])
adds_one law {w} {i} at {d} sending = record { kept = at.kept; at = at.at; new = is_new law at.kept (suc i) at.at sending; grows = grows_by w.sent d }

-- The world after the node is another, with what is new in the list.
pub node_moves : {w : WorldValue} {i : ℕ} {node new : NodeValue} {sent : List Datagram} (at : UpAt w i node) → IsNodeOf w (suc i) at.addr new → Adds w i at.addr sent
    → (IsTrue w.timely → (q : NameValue) → NameKept node.config w i at.addr sent (Some node) (Some new) q) → Invariant (record w { ends = with_node w.ends (suc i) (Some new); sent = sent })
node_moves {w} {i} {node} {new} {sent} at is adds names =
    node_kept adds (Some new) (λ x e. subst (λ (y : NodeValue). IsNodeOf w (suc i) at.addr y) (same_Some new x e) is)
    (λ on q. subst (λ (c : ConfigValue). NameKept c w i at.addr sent (node_of w.ends (suc i)) (Some new) q) at.is.config_is (subst (λ (x : Option NodeValue). NameKept node.config w i at.addr sent x (Some new) q) (sym at.up) (names on q)))

-- ---- one name of the node

pub known_as : {life number clock now start : ℕ} {asked : Clocks → MessageValue → Type 0} {s : State} (new : NodeValue) (q : NameValue) → new.start ≡ start → state_of new q ≡ s
    → RequestsEnded life number clock now asked (knows start s) → RequestsEnded life number clock now asked (known (Some new) q)
known_as new q e f kept = rw (e, f) kept

pub fresh_as : {life number clock now start : ℕ} {asked replied : Clocks → MessageValue → Type 0} {s : State} (new : NodeValue) (q : NameValue) → new.start ≡ start → state_of new q ≡ s
    → RepliesFresh life number clock now asked replied (knows start s) → RepliesFresh life number clock now asked replied (known (Some new) q)
fresh_as new q e f kept = rw (e, f) kept

-- by time alone, where no request about it is new
pub kept_by_time : {w : WorldValue} {i : ℕ} {node new : NodeValue} {sent : List Datagram} (at : UpAt w i node) → Stays node (reading w.now (suc i)) new → Adds w i at.addr sent
    → (q : NameValue) → Within (Asked sent at.addr.ip q) (Asked w.sent at.addr.ip q) → state_of new q ≡ state_at node (reading w.now (suc i)) q → IsTrue w.timely → NameKept node.config w i at.addr sent (Some node) (Some new) q
kept_by_time {new = new} at stays adds q fewer state on = record {
  requests = known_as new q stays.start_is state (ended-frame (omega arith) (omega arith) fewer (ended-settled (at.past on q) (at.requests on q)));
  replies = fresh_as new q stays.start_is state (fresh-frame (omega arith) (omega arith) (asked_still adds.grows) fewer (no_reply_more adds) (fresh-settled (at.past on q) (at.replies on q)));
  claims = claims_by_time stays q state;
}

-- a request about it was sent
pub kept_sending : {w : WorldValue} {i : ℕ} {node new : NodeValue} {name : NameValue} {event : NameEvent} {m : MessageValue} {told : Told} {sent : List Datagram} (at : UpAt w i node)
    → Moved node (reading w.now (suc i)) name event new (Some m) told → Adds w i at.addr sent
    → IsMore (suc i) (reading w.now (suc i)) m (Asked w.sent at.addr.ip name) (Asked sent at.addr.ip name) → IsTrue w.timely → NameKept node.config w i at.addr sent (Some node) (Some new) name
kept_sending {new = new} {name = name} at moved adds more on =
    let past = at.past on name in
    let ended = ended-settled past (at.requests on name) in
    let fresh = fresh-settled past (at.replies on name) in
    let after = past-more past more in
    record {
      requests = known_as new name moved.stays.start_is moved.named (ended-settled after (ended-sent (is_sent moved.moves.move) past more ended));
      replies = fresh_as new name moved.stays.start_is moved.named
          (fresh-settled after
          (fresh-frame (omega arith) (omega arith) (λ moment message a. a) (λ moment message a. a) (no_reply_more adds) (fresh-sent (is_sent moved.moves.move) past (asked_still adds.grows) more ended fresh)));
      claims = claims_sends moved past (at.replies on name);
    }

-- something about it was heard, which is one of the list where it is a positive reply from the server
pub kept_hearing : {w : WorldValue} {i : ℕ} {node new : NodeValue} {name : NameValue} {m : MessageValue} {told : Told} (at : UpAt w i node) → Moved node (reading w.now (suc i)) name (hear m) new None told
    → IsListed w.config.life w.now.clock (Replied w.sent w.ends.server_addr at.addr name) m → IsTrue w.timely → NameKept node.config w i at.addr w.sent (Some node) (Some new) name
kept_hearing {w} {new = new} {name = name} {m = m} at moved listed on =
    let past = at.past on name in
    record {
      requests = known_as new name moved.stays.start_is moved.named (ended-settled past (ended-heard moved.moves.move past (ended-settled past (at.requests on name))));
      replies = fresh_as new name moved.stays.start_is moved.named (fresh-settled past (fresh-heard moved.moves.move past (fresh-settled past (at.replies on name))));
      claims = claims_hears moved (subst (λ (c : ConfigValue). IsListed c.life w.now.clock (Replied w.sent w.ends.server_addr at.addr name) m) (sym at.is.config_is) listed);
    }
