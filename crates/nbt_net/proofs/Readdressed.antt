-- A node does the same where its server, and the end that its lookup asks, are at other addresses, which are told apart as the old ones are.
use Rattle.std.proofs.Common.{◌≡◌, ℕ, Bool, true, false, if◌then◌else◌, eqb, List, Option, Some, None, refl, sym, ap, ◌∙◌}
use Rattle.std.specs.Prelude.{◌&&◌}
use Rattle.std.specs.Option.{option_map}
use Rattle.nbt_name.specs.declared.addr.Addr.{Addr}
use Rattle.nbt_name.specs.Wire.{NameValue}
use Rattle.nbt_packet.specs.Message.{MessageValue, registered, released, found, not_found, status_request, status, wait, query}
use Rattle.nbt_packet.specs.Spelling.{id_of, name_in}
use Rattle.nbt_node.specs.declared.lookup.Lookup.{Lookup}
use Rattle.nbt_node.specs.declared.state.State.{State}
use Rattle.nbt_node.specs.Node.{NodeValue, Passes, settled_lookup, settled_node, changed}
use Rattle.nbt_node.specs.Transaction.{is_over, is_next}
use Rattle.nbt_node.specs.Moves.{Move, NameEvent, NameMoves, Told, asks, gives_back, asks_again, gives_back_again, refreshes_again, refreshes, granted_to, renewed_to, refused_to, loses_asked, loses_held, freed, asking_waits, giving_back_waits, refresh_waits, unmoved}
use Rattle.nbt_node.specs.Calls.{due_lookup, lookup_due, Sends, Polls, polls_name, polls_lookup, polls_nothing}
use Rattle.nbt_node.specs.Datagrams.{same_end, wants, tells_name, ends, NodeHears, from_server, from_stranger, Lists, lists_names, lists_nothing, Ends, is_answered, is_unanswered, Idles, idles, NodeTakes, NodeTakesOctets, spelled, unspelled, Handles}
use Rattle.nbt_node.specs.Answering.{sent_back}

-- two values that are chosen, each moved or both
both : {X Y : Type 0} (f : X → Y) (b : Bool) (x y : X) → (if b then f x else f y) ≡ f (if b then x else y)
both f true x y = refl
both f false x y = refl

module _ (move_to : Addr → Addr) where
  abbrev pub moved_lookup : Lookup → Lookup
  moved_lookup l = record l { to = move_to l.to }

  abbrev pub moved_node : NodeValue → NodeValue
  moved_node node = record node { server = move_to node.server; lookup = option_map moved_lookup node.lookup }

  -- two addresses are one end exactly if those in their places are
  abbrev pub TellsApart : Type 0
  TellsApart = (a b : Addr) → same_end (move_to a) (move_to b) ≡ same_end a b

  module _ (same : TellsApart) where
    -- ---- one name

    module _ (node : NodeValue) (now : ℕ) (name : NameValue) where
      moves_too : {before after : State} {event : NameEvent} {sent : Option MessageValue} {told : Told} {id : ℕ} → Move node now name before event after sent told id → Move (moved_node node) now name before event after sent told id
      moves_too (asks kind ttl rest) = asks kind ttl rest
      moves_too (gives_back kind ttl until renew last pending) = gives_back kind ttl until renew last pending
      moves_too (asks_again kind ttl last p ready) = asks_again kind ttl last p ready
      moves_too (gives_back_again kind last p ready) = gives_back_again kind last p ready
      moves_too (refreshes_again kind ttl until renew last p ready) = refreshes_again kind ttl until renew last p ready
      moves_too (refreshes kind ttl until renew last ready rest) = refreshes kind ttl until renew last ready rest
      moves_too (granted_to kind ttl last p r is) = granted_to kind ttl last p r is
      moves_too (renewed_to kind ttl until renew last p r is) = renewed_to kind ttl until renew last p r is
      moves_too (refused_to kind ttl last rcode p r is bad) = refused_to kind ttl last rcode p r is bad
      moves_too (loses_asked kind ttl last p r differs) = loses_asked kind ttl last p r differs
      moves_too (loses_held kind ttl until renew last rcode pending r bad why) = loses_held kind ttl until renew last rcode pending r bad why
      moves_too (freed kind last rcode p n k a) = freed kind last rcode p n k a
      moves_too (asking_waits kind ttl last p n t) = asking_waits kind ttl last p n t
      moves_too (giving_back_waits kind last p n t) = giving_back_waits kind last p n t
      moves_too (refresh_waits kind ttl until renew last p n t) = refresh_waits kind ttl until renew last p n t
      moves_too (unmoved state message out) = unmoved state message out

    -- ---- the lookup

    lookup_settles : (now : ℕ) (lookup : Option Lookup) → settled_lookup now (option_map moved_lookup lookup) ≡ option_map moved_lookup (settled_lookup now lookup)
    lookup_settles now None = refl
    lookup_settles now (Some l) = both (option_map moved_lookup) (is_over now l.tries l.due) None (Some l)

    lookup_is_due : (now : ℕ) (lookup : Option Lookup) → due_lookup now (option_map moved_lookup lookup) ≡ option_map moved_lookup (due_lookup now lookup)
    lookup_is_due now None = refl
    lookup_is_due now (Some l) = both (option_map moved_lookup) (is_next now l.tries l.due) (Some l) None

    lookup_ends : (lookup : Option Lookup) (from : Addr) (message : MessageValue) → ends (option_map moved_lookup lookup) (move_to from) message ≡ ends lookup from message
    lookup_ends None from message = refl
    lookup_ends (Some l) from message = ap (λ (b : Bool). b && (wants message l.wanted && (eqb (id_of message) l.id && tells_name (name_in message) l.name))) (same from l.to)

    -- ---- a node

    with_lookup : (node : NodeValue) {a b : Option Lookup} → a ≡ b → record node { lookup = a } ≡ record node { lookup = b }
    with_lookup node e = ap (λ (l : Option Lookup). let n : NodeValue = record node { lookup = l } in n) e

    module _ (old : NodeValue) (now : ℕ) where
      passes_too : {new : NodeValue} → Passes old now new → Passes (moved_node old) now (moved_node new)
      passes_too passes = ap moved_node passes ∙ sym (with_lookup (moved_node (settled_node old now)) (lookup_settles now old.lookup))

      name_moves_too : {name : NameValue} {event : NameEvent} {new : NodeValue} {sent : Option MessageValue} {told : Told} → NameMoves old now name event new sent told → NameMoves (moved_node old) now name event (moved_node new) sent told
      name_moves_too {name} {new = new} m = record {
        after = m.after;
        move = moves_too old now name m.move;
        node = ap moved_node m.node ∙ sym (with_lookup (moved_node (changed old now name m.after new.next_id)) (lookup_settles now old.lookup));
      }

      pub sends_too : {name : NameValue} {event : NameEvent} {new : NodeValue} {octets : List ℕ} → Sends old now name event new octets → Sends (moved_node old) now name event (moved_node new) octets
      sends_too s = record { message = s.message; moves = name_moves_too s.moves; written = s.written }

      lookup_due_too : (lookup : Option Lookup) → lookup_due old now ≡ lookup → lookup_due (moved_node old) now ≡ option_map moved_lookup lookup
      lookup_due_too lookup is = ap (due_lookup now) (lookup_settles now old.lookup) ∙ lookup_is_due now (settled_lookup now old.lookup) ∙ ap (option_map moved_lookup) is

      pub polls_too : {new : NodeValue} {to : Option Addr} {octets : List ℕ} → Polls old now new to octets → Polls (moved_node old) now (moved_node new) (option_map move_to to) octets
      polls_too (polls_name slot new octets due sends) = polls_name slot (moved_node new) octets due (sends_too sends)
      polls_too (polls_lookup l new octets still due looks written) = polls_lookup (moved_lookup l) (moved_node new) octets still (lookup_due_too (Some l) due) (ap moved_node looks) written
      polls_too (polls_nothing new still ended passes) = polls_nothing (moved_node new) still (lookup_due_too None ended) (passes_too passes)

      -- ---- a datagram

      hears_too : {from : Addr} {name : NameValue} {message : MessageValue} {new : NodeValue} {sent : Option MessageValue} {told : Told} → NodeHears old now from name message new sent told
          → NodeHears (moved_node old) now (move_to from) name message (moved_node new) sent told
      hears_too {from} (from_server new told is moves) = from_server (moved_node new) told (same from old.server ∙ is) (name_moves_too moves)
      hears_too {from} (from_stranger new other passes) = from_stranger (moved_node new) (same from old.server ∙ other) (passes_too passes)

      lists_too : {id : ℕ} {name : NameValue} {new : NodeValue} {sent : Option MessageValue} {told : Told} → Lists old now id name new sent told → Lists (moved_node old) now id name (moved_node new) sent told
      lists_too (lists_names new is passes) = lists_names (moved_node new) is (passes_too passes)
      lists_too (lists_nothing new other passes) = lists_nothing (moved_node new) other (passes_too passes)

      ending_too : (from : Addr) (message : MessageValue) → ends (settled_lookup now (option_map moved_lookup old.lookup)) (move_to from) message ≡ ends (settled_lookup now old.lookup) from message
      ending_too from message = ap (λ (l : Option Lookup). ends l (move_to from) message) (lookup_settles now old.lookup) ∙ lookup_ends (settled_lookup now old.lookup) from message

      ends_too : {from : Addr} {message : MessageValue} {tells told : Told} {new : NodeValue} {sent : Option MessageValue} → Ends old now from message tells new sent told → Ends (moved_node old) now (move_to from) message tells (moved_node new) sent told
      ends_too {from} {message} (is_answered new is looks) = is_answered (moved_node new) (ending_too from message ∙ is) (ap moved_node looks)
      ends_too {from} {message} (is_unanswered new other passes) = is_unanswered (moved_node new) (ending_too from message ∙ other) (passes_too passes)

      idles_too : {new : NodeValue} {sent : Option MessageValue} {told : Told} → Idles old now new sent told → Idles (moved_node old) now (moved_node new) sent told
      idles_too (idles new passes) = idles (moved_node new) (passes_too passes)

      takes_too : (from : Addr) (message : MessageValue) (new : NodeValue) (sent : Option MessageValue) (told : Told) → NodeTakes old now from message new sent told → NodeTakes (moved_node old) now (move_to from) message (moved_node new) sent told
      takes_too from (registered rcode r) new sent told x = hears_too x
      takes_too from (released id rcode name kind addr) new sent told x = hears_too x
      takes_too from (wait id name ttl) new sent told x = hears_too x
      takes_too from (status_request id name) new sent told x = lists_too x
      takes_too from (found id name ttl entries cut) new sent told x = ends_too x
      takes_too from (not_found id rcode name) new sent told x = ends_too x
      takes_too from (status id name names) new sent told x = ends_too x
      takes_too from message new sent told x = idles_too x

      octets_too : {from : Addr} {octets : List ℕ} {new : NodeValue} {sent : Option MessageValue} {told : Told} → NodeTakesOctets old now from octets new sent told → NodeTakesOctets (moved_node old) now (move_to from) octets (moved_node new) sent told
      octets_too {from} (spelled message new sent told is takes) = spelled message (moved_node new) sent told is (takes_too from message new sent told takes)
      octets_too (unspelled new other passes) = unspelled (moved_node new) other (passes_too passes)

      pub handles_too : {from : Addr} {octets out : List ℕ} {new : NodeValue} {told : Told} → Handles old now from octets new told out → Handles (moved_node old) now (move_to from) octets (moved_node new) told out
      handles_too h = record { sent = h.sent; takes = octets_too h.takes; written = h.written }

    pub back_too : (node : NodeValue) (now : ℕ) (message : Option MessageValue) (told : Told) (reply : List ℕ) → sent_back (moved_node node) now message told reply ≡ sent_back node now message told reply
    back_too node now None told reply = refl
    back_too node now (Some (query id name)) told reply = refl
    back_too node now (Some message) told reply = refl
