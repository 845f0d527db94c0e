-- What a world keeps when an end takes a datagram, and when an end starts or crashes.
use Rattle.std.proofs.Common.{◌≡◌, ◌≢◌, ℕ, zero, suc, List, [], ◌∷◌, ◌++◌, true, eqb, Option, Some, None, refl, sym, ap, subst, ◌∙◌, arith, inl, inr}
use Rattle.std.specs.Prelude.{IsTrue, ◌⊎◌, Result, Ok, Err, Contains}
use Rattle.std.proofs.lemmas.Bool.{and_parts, eqb-true}
use Rattle.std.proofs.lemmas.Option.{same_Some}
use Rattle.nbt_name.specs.declared.addr.Addr.{Addr}
use Rattle.nbt_name.specs.declared.addr.Kind.{Kind}
use Rattle.nbt_name.specs.Wire.{NameValue}
use Rattle.nbt_packet.specs.Message.{MessageValue, registration, overwrite, refresh, release, query, status_request, registered, released, found, not_found, status, wait}
use Rattle.nbt_packet.specs.declared.message.Registration.{Registration}
use Rattle.nbt_packet.specs.Text.{text}
use Rattle.nbt_packet.specs.Spelling.{Spells, AreWritten}
use Rattle.nbt_lease.specs.Config.{ConfigValue}
use Rattle.nbt_lease.specs.Lease.{Leases, TableValue, leases_at, IsSound}
use Rattle.nbt_node.specs.Node.{NodeValue}
use Rattle.nbt_node.proofs.Moving.{others_by_time, known_is}
use Rattle.nbt_node.specs.Moves.{hear, Told, NameMoves}
use Rattle.nbt_node.specs.Datagrams.{same_end, NodeHears, from_server, from_stranger, Lists, lists_names, lists_nothing, names_listed, Ends as LookupEnds, is_answered, is_unanswered, Idles, idles, NodeTakes, NodeTakesOctets, spelled, unspelled}
use Rattle.nbt_lease.specs.declared.fault.GrantFault.{GrantFault}
use Rattle.nbt_lease.specs.declared.lease.Grant.{Grant}
use Rattle.nbt_server.specs.Serving.{ServerValue, AsksFor, grant_reply, Serves, ServesOctets}
use Rattle.nbt_server.specs.Calls.{ServerTakes}
use Rattle.nbt_server.specs.Serving as serving
use Rattle.nbt_world.specs.declared.clocks.Clocks.{Clocks}
use Rattle.nbt_world.specs.declared.ends.Ends.{Ends}
use Rattle.nbt_world.specs.declared.network.Datagram.{Datagram}
use Rattle.nbt_world.specs.Drift.{reading}
use Rattle.nbt_world.specs.World.{WorldValue, IsDeliverable, addr_of, node_of, latest, with_server, with_node, datagram}
use Rattle.nbt_world.specs.Step.{NodeHandles, MovesName, TakenValue, takes, after_taking, ServerDoes, server_takes, server_forgets, EndTakes, finds_down, by_server, by_node}
use Rattle.nbt_world.specs.Inner.Kept.{IsRequest, IsReply, Asked, Replied, known, IsOpen, IsServerOf, Invariant}
use Rattle.std.proofs.lemmas.List.Elements.{Contains-push_cases}
use Rattle.nbt_world.proofs.Knowing.{Moved, Draws, fresh-reply}
use Rattle.nbt_world.proofs.Claiming.{IsListed}
use Rattle.nbt_world.proofs.Keeping.{Grows, asked_still, replied_among, asked_before, addr_with, node_with_here, server_changes, latest-up}
use Rattle.nbt_world.proofs.Covering.{NameKept}
use Rattle.nbt_name.proofs.Same.{names_apart}
use Rattle.nbt_world.specs.Inner.Handing.{Origin, listed, strange, harmless}
use Rattle.nbt_world.proofs.Naming.{OneMessage, Laws, Sending, is_new, nothing_new, grows_by, UpAt, up_at, node_stays, stays_by_moves, adds_none, node_moves, kept_by_time, kept_hearing}
use Rattle.nbt_world.proofs.Granting.{LeaseLaws}
use Rattle.nbt_world.proofs.Served.{Took, request_moves, sound_by, served_claims, still_claims}
use Rattle.nbt_world.proofs.Events.{passed, time_kept, other_kept}

-- ---- a node hears something about a name

-- what is heard from the server, where it is a positive reply, is one of the list
abbrev pub ListedTo : WorldValue → Addr → NameValue → MessageValue → Type 0
ListedTo w addr name m = IsListed w.config.life w.now.clock (Replied w.sent w.ends.server_addr addr name) m

hears_kept : {w : WorldValue} {i : ℕ} {node new : NodeValue} {name : NameValue} {m : MessageValue} {told : Told} (at : UpAt w i node) → NameMoves node (reading w.now (suc i)) name (hear m) new None told → ListedTo w at.addr name m
    → Invariant (record w { ends = with_node w.ends (suc i) (Some new) })
hears_kept {w} {i} {node} {new} {name} {m} {told} at moves in_list = node_moves at (node_stays moved.stays at.is) (adds_none at) (λ on q. names on q (names_apart q name))
  where
    moved : Moved node (reading w.now (suc i)) name (hear m) new None told
    moved = record { stays = stays_by_moves moves; moves = moves; named = known_is node new (reading w.now (suc i)) name (hear m) None told moves at.is.distinct (λ kind ttl e. cc) }

    names : IsTrue w.timely → (q : NameValue) → (q ≡ name) ⊎ (q ≢ name) → NameKept node.config w i at.addr w.sent (Some node) (Some new) q
    names on q (inl e) = subst (λ (n : NameValue). NameKept node.config w i at.addr w.sent (Some node) (Some new) n) (sym e) (kept_hearing at moved in_list on)
    names on q (inr ne) = kept_by_time at moved.stays (adds_none at) q (λ moment message a. a) (others_by_time node new (reading w.now (suc i)) name (hear m) None told moves at.is.distinct q ne) on

-- the world after a node took a datagram, and its reply was sent
abbrev pub replied_world : WorldValue → (i : ℕ) → NodeValue → Addr → Option MessageValue → WorldValue
replied_world w i new to None = record w { ends = with_node w.ends (suc i) (Some new) }
replied_world w i new to (Some m) = record w { ends = with_node w.ends (suc i) (Some new); sent = w.sent ++ datagram new.addr to w.now (text m) ∷ [] }

-- The end of this number, which is at this address, is handed octets.
pub record Handed (w : WorldValue) (number : ℕ) (from addr : Addr) (octets : List ℕ) : Type 0 where
  pub kept : Invariant w
  pub at : addr_of w.ends number ≡ Some addr
  pub origin : Origin w from addr octets

-- where octets from this end come from, and what they spell
pub record IsHeard (w : WorldValue) (i : ℕ) (from : Addr) (m : MessageValue) : Type 0 where
  pub addr : Addr
  pub at : addr_of w.ends (suc i) ≡ Some addr
  pub octets : List ℕ
  pub origin : Origin w from addr octets
  pub spells : Spells octets m

-- an end at the server's address is no stranger
heard_listed : {w : WorldValue} {i : ℕ} {node : NodeValue} {from : Addr} {name : NameValue} {m : MessageValue} (at : UpAt w i node) → IsHeard w i from m → from ≡ w.ends.server_addr → ((r : Registration) → m ≡ registered 0 r → r.name ≡ name)
    → ListedTo w at.addr name m
heard_listed {w} {from = from} {name} at heard same named r e = go heard.origin
  where
    go : Origin w from heard.addr heard.octets → (moment : Clocks) × Replied w.sent w.ends.server_addr at.addr name moment (registered 0 r) × IsDeliverable w.config.life w.now.clock moment.clock
    go (strange off) = absurd (off (0, w.ends.server_addr, refl, ap (λ (a : Addr). a.ip) (sym same)))
    go (harmless off) = absurd (off (registered 0 r, subst (λ (k : MessageValue). Spells heard.octets k) e heard.spells, refl))
    go (listed d c f t o delivered) = (
      d.moment,
      record {
        datagram = d;
        among = c;
        sender = f ∙ same;
        receiver = t ∙ same_Some heard.addr at.addr (sym heard.at ∙ at.at);
        moment_is = refl;
        spelled = subst (λ (xs : List ℕ). Spells xs (registered 0 r)) (sym o) (subst (λ (k : MessageValue). Spells heard.octets k) e heard.spells);
        reply = named r e;
      },
      delivered,
    )

same_addr : (a b : Addr) → same_end a b ≡ true → a ≡ b
same_addr a b e =
    let parts = and_parts (eqb a.ip b.ip) (eqb a.port b.port) e in
    λ i. record { ip = eqb-true a.ip b.ip parts.0 i; port = eqb-true a.port b.port parts.1 i }

heard_kept : {w : WorldValue} {i : ℕ} {node new : NodeValue} {name : NameValue} {m : MessageValue} {sent : Option MessageValue} {told : Told} → UpAt w i node → (from : Addr) → NodeHears node (reading w.now (suc i)) from name m new sent told
    → IsHeard w i from m → ((r : Registration) → m ≡ registered 0 r → r.name ≡ name) → Invariant (replied_world w i new from sent)
heard_kept {node = node} at from (from_server n t same moves) heard named = hears_kept at moves (heard_listed at heard (same_addr from node.server same ∙ at.is.server_is) named)
heard_kept at from (from_stranger n other passes) heard named = time_kept at (passed passes)

lists_kept : OneMessage → {w : WorldValue} {i : ℕ} {node new : NodeValue} {id : ℕ} {name : NameValue} {sent : Option MessageValue} {told : Told} → UpAt w i node → (from : Addr) → Lists node (reading w.now (suc i)) id name new sent told
    → (out : List ℕ) → AreWritten sent out → Invariant (replied_world w i new from sent)
lists_kept law {w} {i} {node} {id = id} {name = name} at from (lists_names n is passes) out written =
    other_kept law at (passed passes) from (refl, subst (λ (xs : List ℕ). Spells xs (status id name (names_listed node (reading w.now (suc i)) name))) written.0 written.1) (λ q r. r) (λ r e. cc)
lists_kept law at from (lists_nothing n is passes) out written = time_kept at (passed passes)

ended_kept : {w : WorldValue} {i : ℕ} {node new : NodeValue} {from : Addr} {m : MessageValue} {sent : Option MessageValue} {t told : Told} → UpAt w i node → LookupEnds node (reading w.now (suc i)) from m t new sent told
    → Invariant (replied_world w i new from sent)
ended_kept at (is_answered n is looks) = time_kept at (passed looks)
ended_kept at (is_unanswered n is passes) = time_kept at (passed passes)

idles_kept : {w : WorldValue} {i : ℕ} {node new : NodeValue} {sent : Option MessageValue} {told : Told} → UpAt w i node → (from : Addr) → Idles node (reading w.now (suc i)) new sent told → Invariant (replied_world w i new from sent)
idles_kept at from (idles n passes) = time_kept at (passed passes)

-- a positive reply is about its own name
named_registered : (rcode : ℕ) (r x : Registration) → registered rcode r ≡ registered 0 x → x.name ≡ r.name
named_registered rcode r x e = ap (λ (y : Registration). y.name) (sym (same r x e))
  where
    same : (a b : Registration) → registered rcode a ≡ registered 0 b → a ≡ b
    same a b e = cc

-- a node takes a message from an end, to which its reply goes back
record Takes (w : WorldValue) (i : ℕ) (node : NodeValue) (from : Addr) (m : MessageValue) (new : NodeValue) (sent : Option MessageValue) : Type 0 where
  at : UpAt w i node
  heard : IsHeard w i from m
  told : Told
  takes : NodeTakes node (reading w.now (suc i)) from m new sent told
  out : List ℕ
  written : AreWritten sent out

takes_kept : OneMessage → {w : WorldValue} {i : ℕ} {node new : NodeValue} {sent : Option MessageValue} (from : Addr) (m : MessageValue) → Takes w i node from m new sent → Invariant (replied_world w i new from sent)
takes_kept law from (registration r) t = idles_kept t.at from t.takes
takes_kept law from (overwrite r) t = idles_kept t.at from t.takes
takes_kept law from (refresh r) t = idles_kept t.at from t.takes
takes_kept law from (release id name kind addr) t = idles_kept t.at from t.takes
takes_kept law from (query id name) t = idles_kept t.at from t.takes
takes_kept law from (status_request id name) t = lists_kept law t.at from t.takes t.out t.written
takes_kept law from (registered rcode r) t = heard_kept t.at from t.takes t.heard (λ x e. named_registered rcode r x e)
takes_kept law from (released id rcode name kind addr) t = heard_kept t.at from t.takes t.heard (λ x e. cc)
takes_kept law from (found id name ttl entries cut) t = ended_kept t.at t.takes
takes_kept law from (not_found id rcode name) t = ended_kept t.at t.takes
takes_kept law from (status id name names) t = ended_kept t.at t.takes
takes_kept law from (wait id name ttl) t = heard_kept t.at from t.takes t.heard (λ x e. cc)

octets_kept : OneMessage → {w : WorldValue} {i : ℕ} {node new : NodeValue} {from addr : Addr} {octets : List ℕ} {sent : Option MessageValue} {told : Told} → UpAt w i node → Handed w (suc i) from addr octets
    → NodeTakesOctets node (reading w.now (suc i)) from octets new sent told → (out : List ℕ) → AreWritten sent out → Invariant (replied_world w i new from sent)
octets_kept law {from = from} {addr} {octets} at h (spelled m n s t is does) out written =
    takes_kept law from m (record { at = at; heard = record { addr = addr; at = h.at; octets = octets; origin = h.origin; spells = is }; told = t; takes = does; out = out; written = written })
octets_kept law at h (unspelled n no_message passes) out written = time_kept at (passed passes)

node_hears_kept : Laws → {w : WorldValue} {node new : NodeValue} {from addr : Addr} {octets : List ℕ} {reply : Option MessageValue} (i : ℕ) → Handed w (suc i) from addr octets → node_of w.ends (suc i) ≡ Some node
    → NodeHandles (reading w.now (suc i)) node from octets reply new → Invariant (after_taking w (with_node w.ends (suc i) (Some new)) addr from (takes reply))
node_hears_kept law {w} {node} {new} {from} {addr} {octets} {reply} i h up hears =
    as_taken reply (subst (λ (r : Option MessageValue). Invariant (replied_world w i new from r)) hears.sent_is (octets_kept law.one_message (up_at law.rests i h.kept up) h hears.handles.takes hears.out hears.handles.written))
  where
    -- the node that is there then is where it was
    as_taken : (r : Option MessageValue) → Invariant (replied_world w i new from r) → Invariant (after_taking w (with_node w.ends (suc i) (Some new)) addr from (takes r))
    as_taken None left = left
    as_taken (Some m) left =
        subst (λ (a : Addr). Invariant (record w { ends = with_node w.ends (suc i) (Some new); sent = w.sent ++ datagram a from w.now (text m) ∷ [] }))
        (left.nodes (suc i) addr new (addr_with w.ends i (Some new) (suc i) ∙ h.at) (node_with_here w.ends i (Some new) addr h.at)).addr_is left

-- ---- the server takes a datagram

serves_sound : LeaseLaws → {table : TableValue} {now ip : ℕ} {m : MessageValue} {reply : Option MessageValue} {after : Leases} → IsSound table.config now (leases_at now table.rows)
    → Serves table now ip m reply after → IsSound table.config now after
serves_sound laws sound (serving.registers k a result l asks own grants) = laws.granted_sound _ _ _ _ _ _ sound grants
serves_sound laws sound (serving.refuses k a asks own) = sound
serves_sound laws sound (serving.refuses_overwrite a) = sound
serves_sound laws sound (serving.releases id name kind addr result l own releases) = laws.released_sound _ _ _ _ _ _ sound releases
serves_sound laws sound (serving.refuses_release id name kind addr own) = sound
serves_sound laws sound (serving.finds id name end least) = sound
serves_sound laws sound (serving.finds_none id name none) = sound
serves_sound laws sound (serving.passes_over k is) = sound

serves_octets_sound : LeaseLaws → {server : ServerValue} {now ip : ℕ} {octets : List ℕ} {reply : Option MessageValue} {after : Leases} → IsSound server.table.config now (leases_at now server.table.rows)
    → ServesOctets server now ip octets reply after → IsSound server.table.config now after
serves_octets_sound laws sound (serving.is_silent early) = sound
serves_octets_sound laws sound (serving.is_no_message none) = sound
serves_octets_sound laws sound (serving.turns_away m speaks spells over) = sound
serves_octets_sound laws sound (serving.serves m p l speaks spells room does) = serves_sound laws sound does

-- what a reply says was asked: by a request about the name, or by an overwrite
pub data Asks (name : NameValue) (k : MessageValue) : Type 0 where
  by_request : IsRequest name k → Asks name k
  by_overwrite : (r : Registration) → k ≡ overwrite r → Asks name k

asks_for : {name : NameValue} {k : MessageValue} {r : Registration} → AsksFor k r → r.name ≡ name → Asks name k
asks_for (serving.by_registration x) e = by_request e
asks_for (serving.by_refresh x) e = by_request e

grant_reply_name : (name : NameValue) (r : Registration) (result : Result Grant GrantFault) → IsReply name (grant_reply r result) → r.name ≡ name
grant_reply_name name r (Ok g) is = is
grant_reply_name name r (Err f) is = is

serves_asked : {table : TableValue} {now ip : ℕ} {k m : MessageValue} {after : Leases} {name : NameValue} → Serves table now ip k (Some m) after → IsReply name m → Asks name k
serves_asked {name = name} (serving.registers x r result l asks own grants) is = asks_for asks (grant_reply_name name r result is)
serves_asked (serving.refuses x r asks own) is = asks_for asks is
serves_asked (serving.refuses_overwrite r) is = by_overwrite r refl
serves_asked (serving.releases id n kind addr result l own releases) is = by_request is
serves_asked (serving.refuses_release id n kind addr own) is = by_request is
serves_asked (serving.finds id n end least) is = elim is [ ]
serves_asked (serving.finds_none id n none) is = elim is [ ]

serves_no_overwrite : {table : TableValue} {now ip : ℕ} {k m : MessageValue} {after : Leases} → Serves table now ip k (Some m) after → (r : Registration) → m ≡ overwrite r → ⊥
serves_no_overwrite (serving.registers x a (Ok g) l asks own grants) r f = cc
serves_no_overwrite (serving.registers x a (Err g) l asks own grants) r f = cc
serves_no_overwrite (serving.refuses x a asks own) r f = cc
serves_no_overwrite (serving.refuses_overwrite a) r f = cc
serves_no_overwrite (serving.releases id n kind addr result l own releases) r f = cc
serves_no_overwrite (serving.refuses_release id n kind addr own) r f = cc
serves_no_overwrite (serving.finds id n end least) r f = cc
serves_no_overwrite (serving.finds_none id n none) r f = cc

-- what a reply to octets was drawn by
pub record Draw (octets : List ℕ) (name : NameValue) : Type 0 where
  pub message : MessageValue
  pub spells : Spells octets message
  pub asks : Asks name message

octets_asked : {server : ServerValue} {now ip : ℕ} {octets : List ℕ} {m : MessageValue} {after : Leases} {name : NameValue} → ServesOctets server now ip octets (Some m) after → IsReply name m → Draw octets name
octets_asked (serving.turns_away k speaks spells over) is = record { message = k; spells = spells; asks = asks_for over.asks is }
octets_asked (serving.serves k p l speaks spells room does) is = record { message = k; spells = spells; asks = serves_asked does is }

octets_no_overwrite : {server : ServerValue} {now ip : ℕ} {octets : List ℕ} {m : MessageValue} {after : Leases} → ServesOctets server now ip octets (Some m) after → (r : Registration) → m ≡ overwrite r → ⊥
octets_no_overwrite (serving.turns_away k speaks spells over) = λ r e. cc
octets_no_overwrite (serving.serves k p l speaks spells room does) = serves_no_overwrite does

-- what is among the replies once one more is sent: what was, and that one
replied_more : OneMessage → {w : WorldValue} {addr : Addr} {d : Datagram} {m : MessageValue} → Sending w addr d m → {server a : Addr} {name : NameValue} {moment : Clocks} {message : MessageValue} → Replied (w.sent ++ d ∷ []) server a name moment message
    → Replied w.sent server a name moment message ⊎ ((moment ≡ w.now) × (d.to ≡ a) × (message ≡ m))
replied_more law {w} {d = d} {m} s {message = message} r =
    elim (Contains-push_cases w.sent d r.datagram r.among) [
      | inl c ↦ inl (replied_among r c)
      | inr e ↦ inr (
        sym r.moment_is ∙ ap (λ (y : Datagram). y.moment) (sym e) ∙ s.now_is,
        ap (λ (y : Datagram). y.to) e ∙ r.receiver,
        law d.octets.items message m (subst (λ (y : Datagram). Spells y.octets.items message) (sym e) r.spelled) s.spelled,
      )
    ]

-- what is asked moves a name
asks_moves : (name : NameValue) (m : MessageValue) → Asks name m → MovesName m
asks_moves name m (by_request q) = request_moves name m q
asks_moves name m (by_overwrite r e) = rw e tt

-- that one was drawn by a request of the end to which it goes
reply_drawn : {w : WorldValue} {number n : ℕ} {from addr a : Addr} {octets : List ℕ} {name : NameValue} {moment : Clocks} → Handed w number from addr octets → addr_of w.ends n ≡ Some a → from ≡ a → Draw octets name → moment ≡ w.now
    → Draws w.config.life n w.now.clock (reading w.now n) (Asked w.sent a.ip name) moment
reply_drawn {w} {n = n} {from} {addr} {a} {octets} {name} {moment} h p same draw now = by_origin h.origin
  where
    by_origin : Origin w from addr octets → Draws w.config.life n w.now.clock (reading w.now n) (Asked w.sent a.ip name) moment
    by_origin (strange off) = absurd (off (n, a, p, ap (λ (x : Addr). x.ip) (sym same)))
    by_origin (harmless off) = absurd (off (draw.message, draw.spells, asks_moves name draw.message draw.asks))
    by_origin (listed x c f t o delivered) = by draw.asks
      where
        spelled_in : Spells x.octets.items draw.message
        spelled_in = subst (λ (xs : List ℕ). Spells xs draw.message) (sym o) draw.spells

        by : Asks name draw.message → Draws w.config.life n w.now.clock (reading w.now n) (Asked w.sent a.ip name) moment
        by (by_overwrite q f2) = absurd ((h.kept.sent x c).no_overwrite q (sym ((h.kept.sent x c).only draw.message spelled_in) ∙ f2))
        by (by_request q) = record {
          sent = x.moment;
          request = draw.message;
          clock_is = ap (λ (c : Clocks). c.clock) now;
          now_is = ap (λ (c : Clocks). reading c n) now;
          asked_is = record { datagram = x; among = c; sender = ap (λ (y : Addr). y.ip) (f ∙ same); moment_is = refl; spelled = spelled_in; request = q };
          delivered = delivered;
        }

-- what the server sends is no request of a node
no_request_more : {w : WorldValue} {d : Datagram} {m : MessageValue} {a : Addr} {name : NameValue} → Invariant w → Sending w w.ends.server_addr d m → (n : ℕ) → addr_of w.ends n ≡ Some a
    → (kind : Kind) (first : ℕ) (moment : Clocks) (message : MessageValue) → IsOpen (known (node_of w.ends n) name) kind first → Asked (w.sent ++ d ∷ []) a.ip name moment message → Asked w.sent a.ip name moment message
no_request_more kept s zero p kind first moment message o x = elim o [ ]
no_request_more {w} {d} {a = a} kept s (suc j) p kind first moment message o x =
    asked_before w.ends.server_addr (λ same. suc_zero j (kept.ends.apart (suc j) 0 a w.ends.server_addr p refl (sym same))) (λ y c. from_it y (Contains-push_cases w.sent d y c)) moment message x
  where
    suc_zero : (k : ℕ) → suc k ≡ 0 → ⊥
    suc_zero k e = cc

    from_it : (y : Datagram) → Contains w.sent y ⊎ (d ≡ y) → Contains w.sent y ⊎ (y.from ≡ w.ends.server_addr)
    from_it y (inl c) = inl c
    from_it y (inr e) = inr (ap (λ (z : Datagram). z.from) (sym e) ∙ s.from_is)

-- the server that has taken octets
server_kept : LeaseLaws → {w : WorldValue} {server new : ServerValue} {ip : ℕ} {octets : List ℕ} {reply : Option MessageValue} → IsServerOf w server → ServerTakes server (reading w.now 0) ip octets reply new → IsServerOf w new
server_kept laws {w} {server} {new} is t = record {
  life_is = ap (λ (c : ConfigValue). c.life) t.config ∙ is.life_is;
  longest_is = ap (λ (c : ConfigValue). c.longest) t.config ∙ is.longest_is;
  past = let e = t.last in omega arith;
  sound = sound_by server.table.config w.config (reading w.now 0) (leases_at (reading w.now 0) new.table.rows) is.longest_is
      (serves_octets_sound laws (sound_by w.config server.table.config (reading w.now 0) (leases_at (reading w.now 0) server.table.rows) (sym is.longest_is) is.sound) t.serves);
}

took : {w : WorldValue} {server new : ServerValue} {from addr : Addr} {octets : List ℕ} {reply : Option MessageValue} {sent : List Datagram} → Handed w 0 from addr octets → latest w.ends ≡ Some server
    → ServerTakes server (reading w.now 0) from.ip octets reply new → Grows w.sent sent
    → ((a : Addr) (q : NameValue) (moment : Clocks) (message : MessageValue) → Replied sent w.ends.server_addr a q moment message → Replied w.sent w.ends.server_addr a q moment message ⊎ ((moment ≡ w.now) × (from ≡ a) × (reply ≡ Some message)))
    → IsTrue w.timely → Took w server new from addr octets reply sent
took {w} {server} h up t grows more on =
    let is = h.kept.server server up in
    record {
      kept = h.kept;
      on = on;
      up = up;
      longest_is = is.longest_is;
      sound = sound_by w.config server.table.config (reading w.now 0) (leases_at (reading w.now 0) server.table.rows) (sym is.longest_is) is.sound;
      origin = h.origin;
      takes = t;
      grows = grows;
      more = more;
    }

server_takes_kept : Laws → LeaseLaws → {w : WorldValue} {server new : ServerValue} {from addr : Addr} {octets : List ℕ} {taken : TakenValue} → Handed w 0 from addr octets → latest w.ends ≡ Some server
    → ServerDoes (reading w.now 0) server from.ip octets taken new → Invariant (after_taking w (with_server w.ends (Some new) w.ends.crashed) addr from taken)
server_takes_kept law laws {w} {server} {new} h up (server_takes None n t) =
    server_changes w (Some new) w.ends.crashed w.sent h.kept (λ s e. subst (λ (x : ServerValue). IsServerOf w x) (same_Some new s e) (server_kept laws (h.kept.server server up) t)) (nothing_new w w.ends.server_addr) h.kept.replies
    (λ on. served_claims laws (took h up t (λ d c. c) (λ a q moment message r. inl r) on))
server_takes_kept law laws {w} {server} {new} {from} {addr} h up (server_takes (Some m) n t) =
    let d = datagram addr from w.now (text m) in
    let sending : Sending w w.ends.server_addr d m =
    record { from_is = sym (same_Some w.ends.server_addr addr h.at); now_is = refl; written = refl; spelled = t.spelled; no_overwrite = octets_no_overwrite t.serves } in
    server_changes w (Some new) w.ends.crashed (w.sent ++ d ∷ []) h.kept (λ s e. subst (λ (x : ServerValue). IsServerOf w x) (same_Some new s e) (server_kept laws (h.kept.server server up) t)) (is_new law.one_message h.kept 0 refl sending)
    (λ on n a name p.
    fresh-reply (h.kept.requests on n a name p) (asked_still (grows_by w.sent d)) (no_request_more h.kept sending n p)
    (λ moment message r.
    elim (replied_more law.one_message sending r) [
      | inl old ↦ inl old
      | inr is ↦ inr (reply_drawn h p is.1 (octets_asked t.serves (subst (λ (k : MessageValue). IsReply name k) is.2 r.reply)) is.0)
    ])
    (h.kept.replies on n a name p))
    (λ on. served_claims laws (took h up t (grows_by w.sent d) (λ a q moment message r. elim (replied_more law.one_message sending r) [ inl old ↦ inl old | inr is ↦ inr (is.0, is.1, ap Some (sym is.2)) ]) on))
server_takes_kept law laws {w} {server} {new} h up (server_forgets n t) =
    server_changes w (Some new) w.ends.crashed w.sent h.kept (λ s e. subst (λ (x : ServerValue). IsServerOf w x) (same_Some new s e) is) (nothing_new w w.ends.server_addr) h.kept.replies
    (λ on. still_claims h.kept on up t.leases t.start (ap (λ (c : ConfigValue). c.longest) t.config))
  where
    is : IsServerOf w new
    is =
        let k = h.kept.server server up in
        record {
          life_is = ap (λ (c : ConfigValue). c.life) t.config ∙ k.life_is;
          longest_is = ap (λ (c : ConfigValue). c.longest) t.config ∙ k.longest_is;
          past = let e = t.last in omega arith;
          sound = subst (λ (l : Leases). IsSound w.config (reading w.now 0) l) (sym t.leases) k.sound;
        }

-- ---- an end takes a datagram

pub taking_kept : Laws → LeaseLaws → {w : WorldValue} {from addr : Addr} {octets : List ℕ} {number : ℕ} {taken : TakenValue} {ends : Ends} → Handed w number from addr octets
    → EndTakes (reading w.now number) w.ends from octets number taken ends → Invariant (after_taking w ends addr from taken)
taking_kept law laws h (finds_down n down) = h.kept
taking_kept law laws {w} h (by_server server new t up does) = server_takes_kept law laws h (latest-up w.ends server up) does
taking_kept law laws h (by_node i node new reply up hears) = node_hears_kept law i h up hears
