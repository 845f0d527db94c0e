-- What a world keeps at a node's own events: it asks, gives back, sends again, looks up, or nothing is due.
use Rattle.std.proofs.Common.{◌≡◌, ◌≢◌, ℕ, suc, List, [], ◌∷◌, ◌++◌, Option, Some, None, refl, sym, ap, subst, ◌∙◌, inl, inr}
use Rattle.std.specs.Prelude.{IsTrue, ◌⊎◌}
use Rattle.std.proofs.lemmas.Option.{none-some}
use Rattle.nbt_name.specs.declared.addr.Addr.{Addr}
use Rattle.nbt_name.specs.Wire.{NameValue}
use Rattle.nbt_packet.specs.declared.message.Registration.{Registration}
use Rattle.nbt_packet.specs.Message.{MessageValue, overwrite}
use Rattle.nbt_node.specs.declared.lookup.Lookup.{Lookup}
use Rattle.nbt_node.specs.declared.lookup.Wanted.{Wanted}
use Rattle.nbt_node.specs.declared.lookup.Wanted.TheVariants.{Entries, Names}
use Rattle.nbt_node.specs.Node.{NodeValue, AreDistinct, state_of}
use Rattle.nbt_node.specs.Settling.{settled}
use Rattle.nbt_node.specs.Transaction.{next_due}
use Rattle.nbt_node.specs.Moves.{NameEvent, poll, give_back, nothing}
use Rattle.nbt_node.proofs.Moving.{ByTimeAlone}
use Rattle.nbt_node.proofs.Moving.{by_time, settled_apart, others_by_time, asked_is, known_is, may_ask}
use Rattle.nbt_packet.specs.Spelling.{AreWritten}
use Rattle.nbt_node.specs.Calls.{Sends, LooksUp, question, Opens, Polls, polls_name, polls_lookup, polls_nothing as nothing_due}
use Rattle.nbt_world.specs.declared.event.Event.{Event}
use Rattle.nbt_world.specs.Drift.{reading}
use Rattle.nbt_world.specs.World.{WorldValue, with_node, datagram}
use Rattle.nbt_world.specs.Step.{CallOutcomeValue, NodeDoes, asks, ask_refused, gives_back, release_refused, resolves, resolve_refused, asks_status, status_refused, polls, polls_nothing, after}
use Rattle.nbt_world.specs.Inner.Kept.{IsRequest, Invariant}
use Rattle.nbt_world.proofs.Keeping.{Adds}
use Rattle.nbt_name.proofs.Same.{names_apart}
use Rattle.nbt_world.proofs.Naming.{OneMessage, request_one, request_no_overwrite, Sending, others_fewer, own_more, UpAt, node_stays, stays_by_moves, adds_none, adds_one, node_moves, kept_by_time, kept_sending}
use Rattle.nbt_world.proofs.Knowing.{Stays, Moved, is_sent}
use Rattle.nbt_world.proofs.Covering.{NameKept}

-- ---- a request about a name: asked for, given back, or sent again

pub sends_kept : OneMessage → {w : WorldValue} {i : ℕ} {node new : NodeValue} {name : NameValue} {event : NameEvent} {octets : List ℕ} (at : UpAt w i node) (sends : Sends node (reading w.now (suc i)) name event new octets)
    → state_of new name ≡ settled node.config.life (reading w.now (suc i)) sends.moves.after → (to : Addr)
    → Invariant (record w { ends = with_node w.ends (suc i) (Some new); sent = w.sent ++ datagram new.addr to w.now octets ∷ [] })
sends_kept law {w} {i} {node} {new} {name} {event} {octets} at sends named to = node_moves at (node_stays moved.stays at.is) adds (λ on q. names on q (names_apart q name))
  where
    moved : Moved node (reading w.now (suc i)) name event new (Some sends.message) nothing
    moved = record { stays = stays_by_moves sends.moves; moves = sends.moves; named = named }

    sending : Sending w at.addr (datagram new.addr to w.now octets) sends.message
    sending = record {
      from_is = moved.stays.addr_is ∙ at.is.addr_is;
      now_is = refl;
      written = sends.written.0;
      spelled = sends.written.1;
      no_overwrite = request_no_overwrite sends.message name (is_sent sends.moves.move).request;
    }

    adds : Adds w i at.addr (w.sent ++ datagram new.addr to w.now octets ∷ [])
    adds = adds_one law at sending

    names : IsTrue w.timely → (q : NameValue) → (q ≡ name) ⊎ (q ≢ name) → NameKept node.config w i at.addr (w.sent ++ datagram new.addr to w.now octets ∷ []) (Some node) (Some new) q
    names on q (inl e) =
        subst (λ (n : NameValue). NameKept node.config w i at.addr (w.sent ++ datagram new.addr to w.now octets ∷ []) (Some node) (Some new) n) (sym e) (kept_sending at moved adds (own_more law sending (suc i)) on)
    names on q (inr ne) =
        kept_by_time at moved.stays adds q (others_fewer law sending (λ r. ne (request_one sends.message q name r (is_sent sends.moves.move).request)))
        (others_by_time node new (reading w.now (suc i)) name event _ _ sends.moves at.is.distinct q ne) on

-- ---- time alone, and what is no request

-- the node after a call that moves no name: each changes by time alone
pub record Passed (old : NodeValue) (now : ℕ) (new : NodeValue) : Type 0 where
  pub stays : Stays old now new
  pub alone : AreDistinct old.slots → ByTimeAlone old now new

pub passed : {old : NodeValue} {now : ℕ} {new : NodeValue} {lookup : Option Lookup} {next : ℕ} → LooksUp old now lookup next new → Passed old now new
passed {old} {now} {new} looks = record {
  stays = record {
    addr_is = ap (λ (n : NodeValue). n.addr) looks;
    server_is = ap (λ (n : NodeValue). n.server) looks;
    config_is = ap (λ (n : NodeValue). n.config) looks;
    start_is = ap (λ (n : NodeValue). n.start) looks;
    last_is = ap (λ (n : NodeValue). n.last) looks;
    distinct_still = settled_apart old new now (ap (λ (n : NodeValue). n.slots) looks);
  };
  alone = by_time old new now (ap (λ (n : NodeValue). n.slots) looks);
}

pub time_kept : {w : WorldValue} {i : ℕ} {node new : NodeValue} → UpAt w i node → Passed node (reading w.now (suc i)) new → Invariant (record w { ends = with_node w.ends (suc i) (Some new) })
time_kept at is = node_moves at (node_stays is.stays at.is) (adds_none at) (λ on q. kept_by_time at is.stays (adds_none at) q (λ moment message a. a) (is.alone at.is.distinct q) on)

-- a datagram that is no request
pub other_kept : OneMessage → {w : WorldValue} {i : ℕ} {node new : NodeValue} {octets : List ℕ} {m : MessageValue} → UpAt w i node → Passed node (reading w.now (suc i)) new
    → (to : Addr) → AreWritten (Some m) octets → ((q : NameValue) → IsRequest q m → ⊥) → ((r : Registration) → m ≡ overwrite r → ⊥)
    → Invariant (record w { ends = with_node w.ends (suc i) (Some new); sent = w.sent ++ datagram new.addr to w.now octets ∷ [] })
other_kept law {w} {new = new} {octets} {m} at is to written off no_overwrite =
    let sending : Sending w at.addr (datagram new.addr to w.now octets) m =
    record { from_is = is.stays.addr_is ∙ at.is.addr_is; now_is = refl; written = written.0; spelled = written.1; no_overwrite = no_overwrite } in
    let adds = adds_one law at sending in
    node_moves at (node_stays is.stays at.is) adds (λ on q. kept_by_time at is.stays adds q (others_fewer law sending (off q)) (is.alone at.is.distinct q) on)

-- a call that was refused leaves the node
pub refused_kept : {w : WorldValue} {i : ℕ} {node : NodeValue} → UpAt w i node → Invariant (record w { ends = with_node w.ends (suc i) (Some node) })
refused_kept at = node_moves at at.is (adds_none at) (λ on q. record { requests = at.requests on q; replies = at.replies on q; claims = λ kind end c. c })

-- ---- a node's own event

question_kept : OneMessage → {w : WorldValue} {i : ℕ} {node new : NodeValue} {octets : List ℕ} → UpAt w i node → Passed node (reading w.now (suc i)) new → (to : Addr) (l : Lookup) → AreWritten (Some (question l)) octets
    → Invariant (record w { ends = with_node w.ends (suc i) (Some new); sent = w.sent ++ datagram new.addr to w.now octets ∷ [] })
question_kept law at is to l written = other_kept law at is to written (λ q. off q l.wanted) (λ r. no_overwrite r l.wanted)
  where
    off : (q : NameValue) (wanted : Wanted) → IsRequest q (question (record l { wanted = wanted })) → ⊥
    off q Entries r = r
    off q Names r = r

    no_overwrite : (r : Registration) (wanted : Wanted) → question (record l { wanted = wanted }) ≡ overwrite r → ⊥
    no_overwrite r Entries e = cc
    no_overwrite r Names e = cc

opens_kept : OneMessage → {w : WorldValue} {i : ℕ} {node new : NodeValue} {name : NameValue} {to : Addr} {wanted : Wanted} {octets : List ℕ} → UpAt w i node → Opens node (reading w.now (suc i)) name to wanted new octets
    → Invariant (record w { ends = with_node w.ends (suc i) (Some new); sent = w.sent ++ datagram new.addr to w.now octets ∷ [] })
opens_kept law {w} {i} {node} {name = name} {to} {wanted} at opens =
    question_kept law at (passed opens.opens) to (record { id = node.next_id; name = name; to = to; wanted = wanted; tries = 1; due = next_due (reading w.now (suc i)) }) opens.written

polls_kept : OneMessage → {w : WorldValue} {i : ℕ} {node new : NodeValue} {x : Option Addr} {octets : List ℕ} → UpAt w i node → Polls node (reading w.now (suc i)) new x octets
    → (to : Addr) → x ≡ Some to → Invariant (record w { ends = with_node w.ends (suc i) (Some new); sent = w.sent ++ datagram new.addr to w.now octets ∷ [] })
polls_kept law {w} {i} {node} {new} at (polls_name slot n o due sends) to e =
    sends_kept law at sends (known_is node new (reading w.now (suc i)) slot.name poll _ _ sends.moves at.is.distinct (λ kind ttl e. cc)) to
polls_kept law at (polls_lookup l n o none due looks written) to e = question_kept law at (passed looks) to l written
polls_kept law at (nothing_due n none no_lookup passes) to e = absurd (none-some to e)

idle_kept : {w : WorldValue} {i : ℕ} {node new : NodeValue} {x : Option Addr} {octets : List ℕ} → UpAt w i node → Polls node (reading w.now (suc i)) new x octets → x ≡ None
    → Invariant (record w { ends = with_node w.ends (suc i) (Some new) })
idle_kept {node = node} at (polls_name slot n o due sends) e = absurd (none-some node.server (sym e))
idle_kept at (polls_lookup l n o none due looks written) e = absurd (none-some l.to (sym e))
idle_kept at (nothing_due n none no_lookup passes) e = time_kept at (passed passes)

pub does_kept : OneMessage → {w : WorldValue} {i : ℕ} {node new : NodeValue} {event : Event} {given : CallOutcomeValue} → UpAt w i node → NodeDoes node (reading w.now (suc i)) event new given → Invariant (after w (suc i) new given)
does_kept law {w} {i} {node} {new} at (asks number name kind ttl n octets none sends) =
    sends_kept law at sends (asked_is node new (reading w.now (suc i)) name _ _ _ sends.moves at.is.distinct (may_ask node (reading w.now (suc i)) name (sym none)).room) node.server
does_kept law at (ask_refused number name kind ttl fault is) = refused_kept at
does_kept law {w} {i} {node} {new} at (gives_back number name n octets none sends) =
    sends_kept law at sends (known_is node new (reading w.now (suc i)) name give_back _ _ sends.moves at.is.distinct (λ kind ttl e. cc)) node.server
does_kept law at (release_refused number name fault is) = refused_kept at
does_kept law at (resolves number name n octets none opens) = opens_kept law at opens
does_kept law at (resolve_refused number name fault is) = refused_kept at
does_kept law at (asks_status number to name n octets none opens) = opens_kept law at opens
does_kept law at (status_refused number to name fault is) = refused_kept at
does_kept law at (polls number to n octets p) = polls_kept law at p to refl
does_kept law at (polls_nothing number n octets p) = idle_kept at p refl
