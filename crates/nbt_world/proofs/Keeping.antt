-- What a world keeps when its clock goes on, when one node changes, and when the server does: what holds of all the
-- other ends and names stays, and so only what is new has to be shown.
use Rattle.std.proofs.Common.{◌≡◌, ◌≢◌, ℕ, zero, suc, ◌≤◌, List, [], ◌∷◌, length, Option, Some, None, refl, sym, ap, subst, ◌∙◌, arith, inl, inr}
use Rattle.std.specs.Prelude.{slice_get, Contains, IsTrue, ◌⊎◌}
use Rattle.std.specs.Option.{option_or}
use Rattle.std.proofs.lemmas.Bool.{cases_eq}
use Rattle.std.proofs.lemmas.Option.{none-some, same_Some}
use Rattle.nbt_name.specs.declared.addr.Addr.{Addr}
use Rattle.nbt_name.specs.Wire.{NameValue}
use Rattle.nbt_packet.specs.Message.{MessageValue}
use Rattle.nbt_server.specs.Serving.{ServerValue}
use Rattle.nbt_node.specs.Node.{NodeValue}
use Rattle.nbt_world.specs.declared.clocks.Clocks.{Clocks}
use Rattle.nbt_world.specs.declared.clocks.Least.{Least}
use Rattle.nbt_world.specs.declared.ends.NodeEnd.{NodeEnd}
use Rattle.nbt_world.specs.declared.ends.Ends.{Ends}
use Rattle.nbt_world.specs.declared.network.Datagram.{Datagram}
use Rattle.nbt_world.specs.Drift.{reading}
use Rattle.nbt_world.specs.World.{WorldValue, addr_at, addr_of, IsEnd, node_in, node_of, put_node, latest, with_server, with_node}
use Rattle.nbt_world.specs.Inner.Kept.{Asked, Replied, known, RequestsEnded, RepliesFresh, IsNodeOf, IsServerOf, IsSeen, AreRead, IsSent, ClaimsKept, Invariant}
use Rattle.nbt_world.proofs.Knowing.{Within, ended-frame, ended-down, fresh-frame}

-- ---- one node is another

put_addr : (nodes : List NodeEnd) (i : ℕ) (x : Option NodeValue) (j : ℕ) → addr_at (put_node nodes i x) j ≡ addr_at nodes j
put_addr [] i x j = refl
put_addr (end ∷ nodes) zero x zero = refl
put_addr (end ∷ nodes) zero x (suc j) = refl
put_addr (end ∷ nodes) (suc i) x zero = refl
put_addr (end ∷ nodes) (suc i) x (suc j) = put_addr nodes i x j

put_other : (nodes : List NodeEnd) (i : ℕ) (x : Option NodeValue) (j : ℕ) → j ≢ i → node_in (slice_get (put_node nodes i x) j) ≡ node_in (slice_get nodes j)
put_other [] i x j ne = refl
put_other (end ∷ nodes) zero x zero ne = absurd (ne refl)
put_other (end ∷ nodes) zero x (suc j) ne = refl
put_other (end ∷ nodes) (suc i) x zero ne = refl
put_other (end ∷ nodes) (suc i) x (suc j) ne = put_other nodes i x j (λ e. ne (ap suc e))

put_here : (nodes : List NodeEnd) (i : ℕ) (x : Option NodeValue) (addr : Addr) → addr_at nodes i ≡ Some addr → node_in (slice_get (put_node nodes i x) i) ≡ x
put_here [] i x addr at = absurd (none-some addr at)
put_here (end ∷ nodes) zero x addr at = refl
put_here (end ∷ nodes) (suc i) x addr at = put_here nodes i x addr at

put_length : (nodes : List NodeEnd) (i : ℕ) (x : Option NodeValue) → length (put_node nodes i x) ≡ length nodes
put_length [] i x = refl
put_length (end ∷ nodes) zero x = refl
put_length (end ∷ nodes) (suc i) x = ap suc (put_length nodes i x)

pub addr_with : (ends : Ends) (i : ℕ) (x : Option NodeValue) (n : ℕ) → addr_of (with_node ends (suc i) x) n ≡ addr_of ends n
addr_with ends i x zero = refl
addr_with ends i x (suc j) = put_addr ends.nodes.items i x j

pub node_with_other : (ends : Ends) (i : ℕ) (x : Option NodeValue) (n : ℕ) → n ≢ suc i → node_of (with_node ends (suc i) x) n ≡ node_of ends n
node_with_other ends i x zero ne = refl
node_with_other ends i x (suc j) ne = put_other ends.nodes.items i x j (λ e. ne (ap suc e))

pub node_with_here : (ends : Ends) (i : ℕ) (x : Option NodeValue) (addr : Addr) → addr_of ends (suc i) ≡ Some addr → node_of (with_node ends (suc i) x) (suc i) ≡ x
node_with_here ends i x addr at = put_here ends.nodes.items i x addr at

pub addr_there : (ends : Ends) (n : ℕ) (node : NodeValue) → node_of ends n ≡ Some node → (addr : Addr) × (addr_of ends n ≡ Some addr)
addr_there ends zero node is = absurd (none-some node is)
addr_there ends (suc i) node is = go (slice_get ends.nodes.items i) refl is
  where
    go : (o : Option NodeEnd) → slice_get ends.nodes.items i ≡ o → node_in o ≡ Some node → (addr : Addr) × (addr_of ends (suc i) ≡ Some addr)
    go None e up = absurd (none-some node up)
    go (Some end) e up = (end.addr, rw e refl)

-- an end that is there was there
pub end_before : (old new : Ends) → ((n : ℕ) → addr_of new n ≡ addr_of old n) → (n : ℕ) → IsEnd new n → IsEnd old n
end_before old new same n e = (e.0, sym (same n) ∙ e.1)

pub read_with : (w : WorldValue) (ends : Ends) (sent : List Datagram) → ((n : ℕ) → addr_of ends n ≡ addr_of w.ends n) → AreRead w → AreRead (record w { ends = ends; sent = sent })
read_with w ends sent same read = record {
  now = read.now;
  readings = λ n e. read.readings n (end_before w.ends ends same n e);
  seen = λ n e. read.seen n (end_before w.ends ends same n e);
  allowed = λ on n e. read.allowed on n (end_before w.ends ends same n e);
  allowed_timely = λ on n e. read.allowed_timely on n (end_before w.ends ends same n e);
  kept_timely = read.kept_timely;
}

-- ---- what was sent

-- the same datagram, where each end is where it was, the true clock has not gone back, and each reading is seen still
pub sent_frame : {old new : Ends} {now later : Clocks} {least lower : List Least} {d : Datagram} → ((n : ℕ) → addr_of new n ≡ addr_of old n) → now.clock ≤ later.clock
    → ((n : ℕ) → IsEnd old n → IsSeen least now d.moment n → IsSeen lower later d.moment n) → IsSent old now least d → IsSent new later lower d
sent_frame {old} {new} same le still is = record {
  number = is.number;
  message = is.message;
  past = let past = is.past in omega arith;
  seen = λ n e. let was = end_before old new same n e in still n was (is.seen n was);
  sender = same is.number ∙ is.sender;
  written = is.written;
  spelled = is.spelled;
  only = is.only;
  no_overwrite = is.no_overwrite;
}

-- a request was sent by now, as this end reads it
pub asked_read : (w : WorldValue) {sent : List Datagram} {ip : ℕ} {name : NameValue} (n : ℕ) → IsEnd w.ends n → ((d : Datagram) → Contains sent d → IsSent w.ends w.now w.least d)
    → (moment : Clocks) (message : MessageValue) → Asked sent ip name moment message → reading moment n ≤ reading w.now n
asked_read w n end all moment message x = subst (λ (m : Clocks). reading m n ≤ reading w.now n) x.moment_is ((all x.datagram x.among).seen n end).read

-- what was asked or replied is in another list that has its datagram
pub asked_among : {old new : List Datagram} {ip : ℕ} {name : NameValue} {moment : Clocks} {message : MessageValue} (a : Asked old ip name moment message) → Contains new a.datagram → Asked new ip name moment message
asked_among a c = record { datagram = a.datagram; among = c; sender = a.sender; moment_is = a.moment_is; spelled = a.spelled; request = a.request }

pub replied_among : {old new : List Datagram} {server to : Addr} {name : NameValue} {moment : Clocks} {message : MessageValue} (a : Replied old server to name moment message) → Contains new a.datagram → Replied new server to name moment message
replied_among a c = record { datagram = a.datagram; among = c; sender = a.sender; receiver = a.receiver; moment_is = a.moment_is; spelled = a.spelled; reply = a.reply }

-- what is new in the list isn't from this address
pub asked_before : {old new : List Datagram} {ip : ℕ} {name : NameValue} (from : Addr) → from.ip ≢ ip → ((d : Datagram) → Contains new d → Contains old d ⊎ (d.from ≡ from)) → Within (Asked new ip name) (Asked old ip name)
asked_before from ne from_new moment message a =
    elim (from_new a.datagram a.among) [ inl c ↦ asked_among a c | inr e ↦ absurd (ne (ap (λ (f : Addr). f.ip) (sym e) ∙ a.sender)) ]

-- what was asked and replied stays in a list that has grown
abbrev pub Grows : List Datagram → List Datagram → Type 0
Grows old new = (d : Datagram) → Contains old d → Contains new d

pub asked_still : {old new : List Datagram} {ip : ℕ} {name : NameValue} → Grows old new → Within (Asked old ip name) (Asked new ip name)
asked_still grows moment message a = asked_among a (grows a.datagram a.among)

-- what is new in the list isn't from the server
replied_before : {old new : List Datagram} {from server to : Addr} {name : NameValue} → from ≢ server → ((d : Datagram) → Contains new d → Contains old d ⊎ (d.from ≡ from)) → Within (Replied new server to name) (Replied old server to name)
replied_before ne from_new moment message a = elim (from_new a.datagram a.among) [ inl c ↦ replied_among a c | inr e ↦ absurd (ne (sym e ∙ a.sender)) ]

-- a node isn't where the server is
node_not_server : (w : WorldValue) (i : ℕ) (addr : Addr) → Invariant w → addr_of w.ends (suc i) ≡ Some addr → addr ≢ w.ends.server_addr
node_not_server w i addr kept at e = let none : suc i ≡ zero = kept.ends.apart (suc i) zero addr w.ends.server_addr at refl (ap (λ (a : Addr). a.ip) e) in cc

-- ---- one node changes

-- what is new in the list was sent by this end
abbrev pub IsNew : WorldValue → Addr → List Datagram → Type 0
IsNew w addr sent = (d : Datagram) → Contains sent d → Contains w.sent d ⊎ ((d.from ≡ addr) × IsSent w.ends w.now w.least d)

all_sent : (w : WorldValue) (addr : Addr) (sent : List Datagram) → Invariant w → IsNew w addr sent → (d : Datagram) → Contains sent d → IsSent w.ends w.now w.least d
all_sent w addr sent kept new d c = elim (new d c) [ inl old ↦ kept.sent d old | inr is ↦ is.1 ]

from_new : (w : WorldValue) (addr : Addr) (sent : List Datagram) → IsNew w addr sent → (d : Datagram) → Contains sent d → Contains w.sent d ⊎ (d.from ≡ addr)
from_new w addr sent new d c = elim (new d c) [ inl old ↦ inl old | inr is ↦ inr is.0 ]

-- A node has sent what is new in a list, or nothing is new.
pub record Adds (w : WorldValue) (i : ℕ) (addr : Addr) (sent : List Datagram) : Type 0 where
  pub kept : Invariant w
  pub at : addr_of w.ends (suc i) ≡ Some addr
  pub new : IsNew w addr sent
  pub grows : Grows w.sent sent

pub adds_nothing : {w : WorldValue} {addr : Addr} (i : ℕ) → Invariant w → addr_of w.ends (suc i) ≡ Some addr → Adds w i addr w.sent
adds_nothing i kept at = record { kept = kept; at = at; new = λ d c. inl c; grows = λ d c. c }

-- no reply is new
pub no_reply_more : {w : WorldValue} {i : ℕ} {addr to : Addr} {name : NameValue} {sent : List Datagram} → Adds w i addr sent → Within (Replied sent w.ends.server_addr to name) (Replied w.sent w.ends.server_addr to name)
no_reply_more {w} {i} {addr} {sent = sent} adds = replied_before (node_not_server w i addr adds.kept adds.at) (from_new w addr sent adds.new)

pub node_changes : {w : WorldValue} {i : ℕ} {addr : Addr} {sent : List Datagram} → Adds w i addr sent → (x : Option NodeValue) → ((node : NodeValue) → x ≡ Some node → IsNodeOf w (suc i) addr node)
    → (IsTrue w.timely → (name : NameValue) → RequestsEnded w.config.life (suc i) w.now.clock (reading w.now (suc i)) (Asked sent addr.ip name) (known x name))
    → (IsTrue w.timely → (name : NameValue) → RepliesFresh w.config.life (suc i) w.now.clock (reading w.now (suc i)) (Asked sent addr.ip name) (Replied sent w.ends.server_addr addr name) (known x name))
    → (IsTrue w.timely → ClaimsKept (record w { ends = with_node w.ends (suc i) x; sent = sent }))
    → Invariant (record w { ends = with_node w.ends (suc i) x; sent = sent })
node_changes {w} {i} {addr} {sent} adds x is names replies claims = record {
  ends = record {
    nodes_at_least = let e = put_length w.ends.nodes.items i x in let least = adds.kept.ends.nodes_at_least in omega arith;
    nodes_at_most = let e = put_length w.ends.nodes.items i x in let most = adds.kept.ends.nodes_at_most in omega arith;
    apart = λ j k a b p q same. adds.kept.ends.apart j k a b (sym (addr_with w.ends i x j) ∙ p) (sym (addr_with w.ends i x k) ∙ q) same;
  };
  clocks = read_with w (with_node w.ends (suc i) x) sent (addr_with w.ends i x) adds.kept.clocks;
  nodes = λ n a node p up. node_at n a node (sym (addr_with w.ends i x n) ∙ p) up (cases_eq n (suc i));
  server = λ server up. let k = adds.kept.server server up in record { life_is = k.life_is; longest_is = k.longest_is; past = k.past; sound = k.sound };
  sent = λ d c. sent_frame (addr_with w.ends i x) (omega arith) (λ n e seen. seen) (all_sent w addr sent adds.kept adds.new d c);
  requests = λ on n a name p. requests_at on n a name (sym (addr_with w.ends i x n) ∙ p) (cases_eq n (suc i));
  replies = λ on n a name p. replies_at on n a name (sym (addr_with w.ends i x n) ∙ p) (cases_eq n (suc i));
  claims = claims;
}
  where
    same_addr : (n : ℕ) (a : Addr) → addr_of w.ends n ≡ Some a → n ≡ suc i → addr ≡ a
    same_addr n a p e = same_Some addr a (sym adds.at ∙ ap (addr_of w.ends) (sym e) ∙ p)

    value_at : (n : ℕ) → n ≡ suc i → node_of (with_node w.ends (suc i) x) n ≡ x
    value_at n e = ap (node_of (with_node w.ends (suc i) x)) e ∙ node_with_here w.ends i x addr adds.at

    node_at : (n : ℕ) (a : Addr) (node : NodeValue) → addr_of w.ends n ≡ Some a → node_of (with_node w.ends (suc i) x) n ≡ Some node → (n ≡ suc i) ⊎ (n ≡ suc i → ⊥)
        → IsNodeOf (record w { ends = with_node w.ends (suc i) x; sent = sent }) n a node
    node_at n a node p up (inl e) =
        let k = is node (sym (value_at n e) ∙ up) in
        record { addr_is = k.addr_is ∙ same_addr n a p e; server_is = k.server_is; config_is = k.config_is; distinct = k.distinct; past = subst (λ (m : ℕ). node.last ≤ reading w.now m) (sym e) k.past }
    node_at n a node p up (inr ne) =
        let k = adds.kept.nodes n a node p (sym (node_with_other w.ends i x n ne) ∙ up) in
        record { addr_is = k.addr_is; server_is = k.server_is; config_is = k.config_is; distinct = k.distinct; past = k.past }

    no_request_more : (n : ℕ) (a : Addr) → addr_of w.ends n ≡ Some a → (n ≡ suc i → ⊥) → {name : NameValue} → Within (Asked sent a.ip name) (Asked w.sent a.ip name)
    no_request_more n a p ne = asked_before addr (λ same. ne (adds.kept.ends.apart n (suc i) a addr p adds.at (sym same))) (from_new w addr sent adds.new)

    requests_at : IsTrue w.timely → (n : ℕ) (a : Addr) (name : NameValue) → addr_of w.ends n ≡ Some a → (n ≡ suc i) ⊎ (n ≡ suc i → ⊥)
        → RequestsEnded w.config.life n w.now.clock (reading w.now n) (Asked sent a.ip name) (known (node_of (with_node w.ends (suc i) x) n) name)
    requests_at on n a name p (inl e) = rw (value_at n e, ← same_addr n a p e, e) (names on name)
    requests_at on n a name p (inr ne) =
        rw (node_with_other w.ends i x n ne)
        (ended-frame (omega arith) (omega arith) (no_request_more n a p ne) (adds.kept.requests on n a name p))

    replies_at : IsTrue w.timely → (n : ℕ) (a : Addr) (name : NameValue) → addr_of w.ends n ≡ Some a → (n ≡ suc i) ⊎ (n ≡ suc i → ⊥)
        → RepliesFresh w.config.life n w.now.clock (reading w.now n) (Asked sent a.ip name) (Replied sent w.ends.server_addr a name) (known (node_of (with_node w.ends (suc i) x) n) name)
    replies_at on n a name p (inl e) = rw (value_at n e, ← same_addr n a p e, e) (replies on name)
    replies_at on n a name p (inr ne) =
        rw (node_with_other w.ends i x n ne)
        (fresh-frame (omega arith) (omega arith) (asked_still adds.grows) (no_request_more n a p ne) (no_reply_more adds) (adds.kept.replies on n a name p))

-- ---- the server changes

-- the one that is up is the latest
pub latest-up : (ends : Ends) (server : ServerValue) → ends.server ≡ Some server → latest ends ≡ Some server
latest-up ends server up = rw up refl

pub server_addr_with : (ends : Ends) (x y : Option ServerValue) (n : ℕ) → addr_of (with_server ends x y) n ≡ addr_of ends n
server_addr_with ends x y zero = refl
server_addr_with ends x y (suc j) = refl

pub server_node_with : (ends : Ends) (x y : Option ServerValue) (n : ℕ) → node_of (with_server ends x y) n ≡ node_of ends n
server_node_with ends x y zero = refl
server_node_with ends x y (suc j) = refl

pub server_changes : (w : WorldValue) (x y : Option ServerValue) (sent : List Datagram) → Invariant w
    → ((server : ServerValue) → option_or x y ≡ Some server → IsServerOf w server) → IsNew w w.ends.server_addr sent
    → (IsTrue w.timely → (n : ℕ) (a : Addr) (name : NameValue) → addr_of w.ends n ≡ Some a
    → RepliesFresh w.config.life n w.now.clock (reading w.now n) (Asked sent a.ip name) (Replied sent w.ends.server_addr a name) (known (node_of w.ends n) name))
    → (IsTrue w.timely → ClaimsKept (record w { ends = with_server w.ends x y; sent = sent }))
    → Invariant (record w { ends = with_server w.ends x y; sent = sent })
server_changes w x y sent kept is new replies claims = record {
  ends = record {
    nodes_at_least = kept.ends.nodes_at_least;
    nodes_at_most = kept.ends.nodes_at_most;
    apart = λ j k a b p q same. kept.ends.apart j k a b (sym (server_addr_with w.ends x y j) ∙ p) (sym (server_addr_with w.ends x y k) ∙ q) same;
  };
  clocks = read_with w (with_server w.ends x y) sent (server_addr_with w.ends x y) kept.clocks;
  nodes = λ n a node p up.
      let k = kept.nodes n a node (sym (server_addr_with w.ends x y n) ∙ p) (sym (server_node_with w.ends x y n) ∙ up) in
      record { addr_is = k.addr_is; server_is = k.server_is; config_is = k.config_is; distinct = k.distinct; past = k.past };
  server = λ server up. let k = is server up in record { life_is = k.life_is; longest_is = k.longest_is; past = k.past; sound = k.sound };
  sent = λ d c. sent_frame (server_addr_with w.ends x y) (omega arith) (λ n e seen. seen) (all_sent w w.ends.server_addr sent kept new d c);
  requests = λ on n a name p. requests_at on n a name (sym (server_addr_with w.ends x y n) ∙ p);
  replies = λ on n a name p. rw (server_node_with w.ends x y n) (replies on n a name (sym (server_addr_with w.ends x y n) ∙ p));
  claims = claims;
}
  where
    requests_at : IsTrue w.timely → (n : ℕ) (a : Addr) (name : NameValue) → addr_of w.ends n ≡ Some a
        → RequestsEnded w.config.life n w.now.clock (reading w.now n) (Asked sent a.ip name) (known (node_of (with_server w.ends x y) n) name)
    requests_at on zero a name p =
        ended-down (asked_read w zero (a, p) (all_sent w w.ends.server_addr sent kept new))
    requests_at on (suc j) a name p =
        ended-frame (omega arith) (omega arith)
        (asked_before w.ends.server_addr (λ same. let none : zero ≡ suc j = kept.ends.apart zero (suc j) w.ends.server_addr a refl p same in cc) (from_new w w.ends.server_addr sent new))
        (kept.requests on (suc j) a name p)
