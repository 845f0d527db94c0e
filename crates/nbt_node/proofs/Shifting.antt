-- A node by a clock that shows a constant more does the same, with each of its times greater by as much.
use Rattle.std.proofs.Common.{◌≡◌, ℕ, ◌+◌, ◌*◌, Bool, true, false, cond, leb, ltb, List, [], ◌∷◌, map, replicate, zero, suc, min, subst, ◌++◌, Option, Some, None, refl, sym, ap, ◌∙◌, arith, inl, inr, le-leb, lt-ltb, le-ltb}
use Rattle.std.specs.Prelude.{◌||◌, ◌&&◌, is_some}
use Rattle.std.specs.Option.{option_map}
use Rattle.std.proofs.lemmas.Bool.{lt-leb}
use Rattle.std.proofs.lemmas.Bool.Decides.{leb_tells}
use Rattle.std.specs.List.{flat_map}
use Rattle.std.specs.Str.{bytes_eq}
use Rattle.nbt_name.specs.Wire.{NameValue, same_name, is_star}
use Rattle.nbt_name.specs.declared.addr.Kind.{Kind}
use Rattle.nbt_name.specs.declared.addr.Addr.{Addr}
use Rattle.nbt_packet.specs.Message.{MessageValue, registered, released, found, not_found, status_request, status, wait}
use Rattle.nbt_lease.specs.Drift.{quiet, hold}
use Rattle.nbt_node.specs.declared.fault.AskFault.TheVariants as ask_faults
use Rattle.nbt_node.specs.declared.fault.ReleaseFault.TheVariants as release_faults
use Rattle.nbt_node.specs.declared.fault.LookupFault.TheVariants as lookup_faults
use Rattle.nbt_node.specs.declared.lookup.Lookup.{Lookup}
use Rattle.nbt_node.specs.declared.state.Slot.{Slot}
use Rattle.nbt_node.specs.declared.state.State.{State}
use Rattle.nbt_node.specs.declared.state.State.TheVariants.{Idle, Asking, Held, Releasing, Resting}
use Rattle.nbt_node.specs.declared.transaction.Transaction.{Transaction}
use Rattle.nbt_node.specs.declared.lookup.Wanted.{Wanted}
use Rattle.nbt_node.specs.Node.{NodeValue, Passes, is_in, has_room, state_in, slot_of, put, take_slot, with_state, settled_slot, settled_lookup, settled_node, changed, state_at, held_at}
use Rattle.nbt_node.specs.Transaction.{is_over, is_next, opened, again, put_off, wait_until}
use Rattle.nbt_node.specs.Settling.{rested, pending_at, settled}
use Rattle.nbt_node.specs.Moves.{Move, NameEvent, NameMoves, poll, hear, Told, nothing, replied, finds, finds_none, lists, is_due, has_id, matters, granted_by, held_for, asks, gives_back, asks_again, gives_back_again, refreshes_again, refreshes, granted_to, renewed_to, refused_to, loses_asked, loses_held, freed, asking_waits, giving_back_waits, refresh_waits, unmoved}
use Rattle.nbt_node.specs.Calls.{due_soon, refreshing_soon, held_kind, first_due, slot_due, due_lookup, lookup_due, LooksUp, Sends, Opens, Polls, polls_name, polls_lookup, polls_nothing, is_busy, is_quiet}
use Rattle.nbt_node.specs.Datagrams.{listed_as, listed, names_listed, is_listed_for, ends, NodeHears, from_server, from_stranger, Lists, lists_names, lists_nothing, Ends, is_answered, is_unanswered, Idles, idles, NodeTakes, NodeTakesOctets, spelled, unspelled}
use Rattle.nbt_node.specs.Shifted.{shifted_request, shifted_state, shifted_slot, shifted_slots, shifted_lookup, shifted_node, StartsAlike, TellsAlike, DoesAlike}

leb_shifted : (a b more : ℕ) → leb (a + more) (b + more) ≡ leb a b
leb_shifted a b more = elim (leb_tells a b) [
  | inl within ↦ rw (within.0, le-leb (a + more) (b + more) (omega (arith, within.1))) refl
  | inr other ↦ rw (other.0, lt-leb (a + more) (b + more) (omega (arith, other.1))) refl
]

swap : (a more c : ℕ) → a + more + c ≡ a + c + more
swap a more c = omega arith

ltb_shifted : (a b more : ℕ) → ltb (a + more) (b + more) ≡ ltb a b
ltb_shifted a b more = elim (leb_tells b a) [
  | inl within ↦ rw (le-ltb a b within.1, le-ltb (a + more) (b + more) (omega (arith, within.1))) refl
  | inr other ↦ rw (lt-ltb a b other.1, lt-ltb (a + more) (b + more) (omega (arith, other.1))) refl
]

-- a choice by the same test, between values that are shifted
both : {X Y : Type 0} (f : X → Y) (b c : Bool) (x y : X) (u v : Y) → b ≡ c → u ≡ f x → v ≡ f y → cond b u v ≡ f (cond c x y)
both f b true x y u v e p q = rw e p
both f b false x y u v e p q = rw e q

-- ---- what doesn't look at times

module _ (more : ℕ) where
  slot_of_shifted : (name : NameValue) (state : State) → slot_of name (shifted_state more state) ≡ option_map (shifted_slot more) (slot_of name state)
  slot_of_shifted name Idle = refl
  slot_of_shifted name state = refl

  state_in_shifted : (slots : List (Option Slot)) (name : NameValue) → state_in (shifted_slots more slots) name ≡ shifted_state more (state_in slots name)
  state_in_shifted [] name = refl
  state_in_shifted (None ∷ rest) name = state_in_shifted rest name
  state_in_shifted (Some slot ∷ rest) name = both (shifted_state more) _ (same_name slot.name name) slot.state (state_in rest name) _ _ refl refl (state_in_shifted rest name)

  is_in_shifted : (slots : List (Option Slot)) (name : NameValue) → is_in (shifted_slots more slots) name ≡ is_in slots name
  is_in_shifted [] name = refl
  is_in_shifted (None ∷ rest) name = is_in_shifted rest name
  is_in_shifted (Some slot ∷ rest) name = ap (λ (b : Bool). same_name slot.name name || b) (is_in_shifted rest name)

  has_room_shifted : (slots : List (Option Slot)) → has_room (shifted_slots more slots) ≡ has_room slots
  has_room_shifted [] = refl
  has_room_shifted (None ∷ rest) = refl
  has_room_shifted (Some slot ∷ rest) = has_room_shifted rest

  put_shifted : (slots : List (Option Slot)) (name : NameValue) (state : State) → put (shifted_slots more slots) name (shifted_state more state) ≡ shifted_slots more (put slots name state)
  put_shifted [] name state = refl
  put_shifted (None ∷ rest) name state = ap (λ (xs : List (Option Slot)). None ∷ xs) (put_shifted rest name state)
  put_shifted (Some slot ∷ rest) name state =
      both (shifted_slots more) _ (same_name slot.name name) (slot_of name state ∷ rest) (Some slot ∷ put rest name state) _ _ refl
      (ap (λ (s : Option Slot). s ∷ shifted_slots more rest) (slot_of_shifted name state)) (ap (λ (xs : List (Option Slot)). option_map (shifted_slot more) (Some slot) ∷ xs) (put_shifted rest name state))

  take_shifted : (slots : List (Option Slot)) (name : NameValue) (state : State) → take_slot (shifted_slots more slots) name (shifted_state more state) ≡ shifted_slots more (take_slot slots name state)
  take_shifted [] name state = refl
  take_shifted (None ∷ rest) name state = ap (λ (s : Option Slot). s ∷ shifted_slots more rest) (slot_of_shifted name state)
  take_shifted (Some slot ∷ rest) name state = ap (λ (xs : List (Option Slot)). option_map (shifted_slot more) (Some slot) ∷ xs) (take_shifted rest name state)

  with_state_shifted : (slots : List (Option Slot)) (name : NameValue) (state : State) → with_state (shifted_slots more slots) name (shifted_state more state) ≡ shifted_slots more (with_state slots name state)
  with_state_shifted slots name state =
      both (shifted_slots more) _ (is_in slots name) (put slots name state) (take_slot slots name state) _ _ (is_in_shifted slots name) (put_shifted slots name state) (take_shifted slots name state)

  held_kind_shifted : (state : State) → held_kind (shifted_state more state) ≡ held_kind state
  held_kind_shifted Idle = refl
  held_kind_shifted state = refl

  due_soon_shifted : (state : State) → due_soon (shifted_state more state) ≡ shifted_state more (due_soon state)
  due_soon_shifted Idle = refl
  due_soon_shifted state = refl

  listed_shifted : (scope : List ℕ) (slots : List (Option Slot)) → flat_map (listed scope) (shifted_slots more slots) ≡ flat_map (listed scope) slots
  listed_shifted scope [] = refl
  listed_shifted scope (None ∷ rest) = listed_shifted scope rest
  listed_shifted scope (Some slot ∷ rest) =
      let here : listed scope (option_map (shifted_slot more) (Some slot)) ≡ listed scope (Some slot) = ap (λ (k : Option Kind). cond (bytes_eq slot.name.scope scope) (listed_as slot.name.octets k) []) (held_kind_shifted slot.state) in
      let behind = listed_shifted scope rest in
      λ i. here i ++ behind i

  ends_shifted : (lookup : Option Lookup) (from : Addr) (message : MessageValue) → ends (option_map (shifted_lookup more) lookup) from message ≡ ends lookup from message
  ends_shifted None from message = refl
  ends_shifted (Some l) from message = refl

  is_open_shifted : (lookup : Option Lookup) → is_some (option_map (shifted_lookup more) lookup) ≡ is_some lookup
  is_open_shifted None = refl
  is_open_shifted (Some l) = refl

  held_for_shifted : (kind : Kind) (ttl first seconds last : ℕ) → shifted_state more (held_for kind ttl first seconds last) ≡ held_for kind ttl (first + more) seconds (last + more)
  held_for_shifted kind ttl first seconds last = let e = sym (swap first more (hold seconds)) in let r = sym (swap first more (500 * seconds)) in λ i. Held kind ttl (e i) (r i) (last + more) None

  has_id_shifted : (pending : Option Transaction) (id : ℕ) → has_id (option_map (shifted_request more) pending) id ≡ has_id pending id
  has_id_shifted None id = refl
  has_id_shifted (Some p) id = refl

  matters_shifted : (state : State) (message : MessageValue) → matters (shifted_state more state) message ≡ matters state message
  matters_shifted (Held kind ttl until renew last None) message = refl
  matters_shifted (Held kind ttl until renew last (Some p)) message = refl
  matters_shifted state message = refl

  is_busy_shifted : (state : State) → is_busy (shifted_state more state) ≡ is_busy state
  is_busy_shifted Idle = refl
  is_busy_shifted state = refl

  is_quiet_shifted : (state : State) → is_quiet (shifted_state more state) ≡ is_quiet state
  is_quiet_shifted Idle = refl
  is_quiet_shifted state = refl

-- ---- one name's state

module _ (more now : ℕ) where
  over_shifted : (tries due : ℕ) → is_over (now + more) tries (due + more) ≡ is_over now tries due
  over_shifted tries due = ap (λ (b : Bool). leb 3 tries && b) (leb_shifted due now more)

  next_shifted : (tries due : ℕ) → is_next (now + more) tries (due + more) ≡ is_next now tries due
  next_shifted tries due = ap (λ (b : Bool). ltb tries 3 && b) (leb_shifted due now more)

  rested_yet : (last rest : ℕ) → ltb (last + more + rest) (now + more) ≡ ltb (last + rest) now
  rested_yet last rest = ap (λ (n : ℕ). ltb n (now + more)) (swap last more rest) ∙ ltb_shifted (last + rest) now more

  module _ (life : ℕ) where
    rested_shifted : (last : ℕ) → rested life (now + more) (last + more) ≡ shifted_state more (rested life now last)
    rested_shifted last = both (shifted_state more) _ (ltb (last + quiet life) now) Idle (Resting last) _ _ (rested_yet last (quiet life)) refl refl

    pending_at_shifted : (pending : Option Transaction) → pending_at (now + more) (option_map (shifted_request more) pending) ≡ option_map (shifted_request more) (pending_at now pending)
    pending_at_shifted None = refl
    pending_at_shifted (Some r) = both (option_map (shifted_request more)) _ (is_over now r.tries r.due) None (Some r) _ _ (over_shifted r.tries r.due) refl refl

    pub settled_shifted : (state : State) → settled life (now + more) (shifted_state more state) ≡ shifted_state more (settled life now state)
    settled_shifted Idle = refl
    settled_shifted (Asking kind ttl last p) = both (shifted_state more) _ (is_over now p.tries p.due) (rested life now last) (Asking kind ttl last p) _ _ (over_shifted p.tries p.due) (rested_shifted last) refl
    settled_shifted (Held kind ttl until renew last pending) =
        both (shifted_state more) _ (leb until now) (rested life now last) (Held kind ttl until renew last (pending_at now pending)) _ _ (leb_shifted until now more) (rested_shifted last)
        (ap (λ (q : Option Transaction). Held kind ttl (until + more) (renew + more) (last + more) q) (pending_at_shifted pending))
    settled_shifted (Releasing kind last p) = both (shifted_state more) _ (is_over now p.tries p.due) (rested life now last) (Releasing kind last p) _ _ (over_shifted p.tries p.due) (rested_shifted last) refl
    settled_shifted (Resting last) = rested_shifted last

    -- ---- slots

    slots_shifted : (slots : List (Option Slot)) → map (settled_slot life (now + more)) (shifted_slots more slots) ≡ shifted_slots more (map (settled_slot life now) slots)
    slots_shifted [] = refl
    slots_shifted (None ∷ rest) = ap (λ (xs : List (Option Slot)). None ∷ xs) (slots_shifted rest)
    slots_shifted (Some slot ∷ rest) =
        let here : settled_slot life (now + more) (option_map (shifted_slot more) (Some slot)) ≡ option_map (shifted_slot more) (settled_slot life now (Some slot)) = ap (slot_of slot.name) (settled_shifted slot.state) ∙ slot_of_shifted more slot.name (settled life now slot.state) in
        let behind = slots_shifted rest in
        λ i. here i ∷ behind i

    due_shifted : (state : State) → is_due life (now + more) (shifted_state more state) ≡ is_due life now state
    due_shifted (Asking kind ttl last p) = next_shifted p.tries p.due
    due_shifted (Releasing kind last p) = next_shifted p.tries p.due
    due_shifted (Held kind ttl until renew last (Some p)) = next_shifted p.tries p.due
    due_shifted (Held kind ttl until renew last None) = let a = leb_shifted renew now more in let b = rested_yet last (quiet life) in λ i. a i && b i
    due_shifted state = refl

    first_due_shifted : (slots : List (Option Slot)) → first_due life (now + more) (shifted_slots more slots) ≡ option_map (shifted_slot more) (first_due life now slots)
    first_due_shifted [] = refl
    first_due_shifted (None ∷ rest) = first_due_shifted rest
    first_due_shifted (Some slot ∷ rest) = both (option_map (shifted_slot more)) _ (is_due life now slot.state) (Some slot) (first_due life now rest) _ _ (due_shifted slot.state) refl (first_due_shifted rest)

  -- ---- lookups

  lookup_is_shifted : (lookup : Option Lookup) → settled_lookup (now + more) (option_map (shifted_lookup more) lookup) ≡ option_map (shifted_lookup more) (settled_lookup now lookup)
  lookup_is_shifted None = refl
  lookup_is_shifted (Some l) = both (option_map (shifted_lookup more)) _ (is_over now l.tries l.due) None (Some l) _ _ (over_shifted l.tries l.due) refl refl

  due_lookup_shifted : (lookup : Option Lookup) → due_lookup (now + more) (option_map (shifted_lookup more) lookup) ≡ option_map (shifted_lookup more) (due_lookup now lookup)
  due_lookup_shifted None = refl
  due_lookup_shifted (Some l) = both (option_map (shifted_lookup more)) _ (is_next now l.tries l.due) (Some l) None _ _ (next_shifted l.tries l.due) refl refl

  held_at_shifted : (state : State) → held_at (now + more) (shifted_state more state) ≡ held_at now state
  held_at_shifted (Held kind ttl until renew last pending) = ap (λ (b : Bool). cond b (Some kind) None) (ltb_shifted now until more)
  held_at_shifted state = refl

  -- ---- moves

  opened_shifted : (id : ℕ) → shifted_request more (opened id now) ≡ opened id (now + more)
  opened_shifted id = let e = swap now more 5000 in λ i. record { id = id; first = now + more; tries = 1; due = sym e i }

  again_shifted : (p : Transaction) → shifted_request more (again now p) ≡ again (now + more) (shifted_request more p)
  again_shifted p = let e = sym (swap now more 5000) in λ i. record (shifted_request more p) { tries = p.tries + 1; due = e i }

  put_off_shifted : (t : ℕ) (p : Transaction) → shifted_request more (put_off (wait_until now t) p) ≡ put_off (wait_until (now + more) t) (shifted_request more p)
  put_off_shifted t p = let e = sym (swap now more (1000 * min t 60)) in λ i. record (shifted_request more p) { due = e i }

  module _ (node : NodeValue) (name : NameValue) where
    ends_in : (before a b : State) (event : NameEvent) (m : Option MessageValue) (told : Told) (id : ℕ) → b ≡ a → Move (shifted_node more node) (now + more) name before event a m told id → Move (shifted_node more node) (now + more) name before event b m told id
    ends_in before a b event m told id e move = subst (λ (s : State). Move (shifted_node more node) (now + more) name before event s m told id) (sym e) move

    pub move_shifted : (before : State) (event : NameEvent) (after : State) (m : Option MessageValue) (told : Told) (id : ℕ) → Move node now name before event after m told id
        → Move (shifted_node more node) (now + more) name (shifted_state more before) event (shifted_state more after) m told id
    move_shifted _ _ _ _ _ _ (asks kind ttl rest) = ends_in _ _ _ _ _ _ _ (ap (λ (q : Transaction). Asking kind ttl (now + more) q) (opened_shifted node.next_id)) (asks kind ttl (omega (arith, rest)))
    move_shifted _ _ _ _ _ _ (gives_back kind ttl until renew last pending) =
        ends_in _ _ _ _ _ _ _ (ap (λ (q : Transaction). Releasing kind (now + more) q) (opened_shifted node.next_id)) (gives_back kind ttl (until + more) (renew + more) (last + more) (option_map (shifted_request more) pending))
    move_shifted _ _ _ _ _ _ (asks_again kind ttl last p ready) =
        ends_in _ _ _ _ _ _ _ (ap (λ (q : Transaction). Asking kind ttl (now + more) q) (again_shifted p)) (asks_again kind ttl (last + more) (shifted_request more p) (next_shifted p.tries p.due ∙ ready))
    move_shifted _ _ _ _ _ _ (gives_back_again kind last p ready) =
        ends_in _ _ _ _ _ _ _ (ap (λ (q : Transaction). Releasing kind (now + more) q) (again_shifted p)) (gives_back_again kind (last + more) (shifted_request more p) (next_shifted p.tries p.due ∙ ready))
    move_shifted _ _ _ _ _ _ (refreshes_again kind ttl until renew last p ready) =
        ends_in _ _ _ _ _ _ _ (ap (λ (q : Transaction). Held kind ttl (until + more) (renew + more) (now + more) (Some q)) (again_shifted p))
        (refreshes_again kind ttl (until + more) (renew + more) (last + more) (shifted_request more p) (next_shifted p.tries p.due ∙ ready))
    move_shifted _ _ _ _ _ _ (refreshes kind ttl until renew last ready rest) =
        ends_in _ _ _ _ _ _ _ (ap (λ (q : Transaction). Held kind ttl (until + more) (renew + more) (now + more) (Some q)) (opened_shifted node.next_id))
        (refreshes kind ttl (until + more) (renew + more) (last + more) (omega (arith, ready)) (omega (arith, rest)))
    move_shifted _ _ _ _ _ _ (granted_to kind ttl last p r same) = ends_in _ _ _ _ _ _ _ (held_for_shifted more kind ttl p.first (granted_by node r) last) (granted_to kind ttl (last + more) (shifted_request more p) r same)
    move_shifted _ _ _ _ _ _ (renewed_to kind ttl until renew last p r same) =
        ends_in _ _ _ _ _ _ _ (held_for_shifted more kind ttl p.first (granted_by node r) last) (renewed_to kind ttl (until + more) (renew + more) (last + more) (shifted_request more p) r same)
    move_shifted _ _ _ _ _ _ (refused_to kind ttl last rcode p r same bad) = refused_to kind ttl (last + more) rcode (shifted_request more p) r same bad
    move_shifted _ _ _ _ _ _ (loses_asked kind ttl last p r differs) = loses_asked kind ttl (last + more) (shifted_request more p) r differs
    move_shifted _ _ _ _ _ _ (loses_held kind ttl until renew last rcode pending r bad why) =
        loses_held kind ttl (until + more) (renew + more) (last + more) rcode (option_map (shifted_request more) pending) r bad (rw (has_id_shifted more pending r.id) why)
    move_shifted _ _ _ _ _ _ (freed kind last rcode p n k a) = freed kind (last + more) rcode (shifted_request more p) n k a
    move_shifted _ _ _ _ _ _ (asking_waits kind ttl last p n t) =
        ends_in _ _ _ _ _ _ _ (ap (λ (q : Transaction). Asking kind ttl (last + more) q) (put_off_shifted t p)) (asking_waits kind ttl (last + more) (shifted_request more p) n t)
    move_shifted _ _ _ _ _ _ (giving_back_waits kind last p n t) =
        ends_in _ _ _ _ _ _ _ (ap (λ (q : Transaction). Releasing kind (last + more) q) (put_off_shifted t p)) (giving_back_waits kind (last + more) (shifted_request more p) n t)
    move_shifted _ _ _ _ _ _ (refresh_waits kind ttl until renew last p n t) =
        ends_in _ _ _ _ _ _ _ (ap (λ (q : Transaction). Held kind ttl (until + more) (renew + more) (last + more) (Some q)) (put_off_shifted t p))
        (refresh_waits kind ttl (until + more) (renew + more) (last + more) (shifted_request more p) n t)
    move_shifted _ _ _ _ _ _ (unmoved state message out) = unmoved (shifted_state more state) message (matters_shifted more state message ∙ out)

started_yet : (more now start rest : ℕ) → leb (now + more) (start + more + rest) ≡ leb now (start + rest)
started_yet more now start rest = ap (leb (now + more)) (swap start more rest) ∙ leb_shifted now (start + rest) more

-- ---- a node

module _ (more : ℕ) (old : NodeValue) (now : ℕ) where
  state_at_shifted : (name : NameValue) → state_at (shifted_node more old) (now + more) name ≡ shifted_state more (state_at old now name)
  state_at_shifted name = ap (settled old.config.life (now + more)) (state_in_shifted more old.slots name) ∙ settled_shifted more now old.config.life (state_in old.slots name)

  pub settled_node_shifted : settled_node (shifted_node more old) (now + more) ≡ shifted_node more (settled_node old now)
  settled_node_shifted =
      let lookups = lookup_is_shifted more now old.lookup in
      let all = slots_shifted more now old.config.life old.slots in
      λ i. record (shifted_node more old) { last = now + more; lookup = lookups i; slots = all i }

  passes_shifted : (new : NodeValue) → Passes old now new → Passes (shifted_node more old) (now + more) (shifted_node more new)
  passes_shifted new passes = ap (shifted_node more) passes ∙ sym settled_node_shifted

  changed_shifted : (name : NameValue) (after : State) (id : ℕ) → changed (shifted_node more old) (now + more) name (shifted_state more after) id ≡ shifted_node more (changed old now name after id)
  changed_shifted name after id =
      let life = old.config.life in
      let settled_slots = map (settled_slot life now) old.slots in
      let lookups = lookup_is_shifted more now old.lookup in
      let one = settled_shifted more now life after in
      let all = slots_shifted more now life old.slots in
      let put_in = with_state_shifted more settled_slots name (settled life now after) in
      let slots_are : with_state (map (settled_slot life (now + more)) (shifted_slots more old.slots)) name (settled life (now + more) (shifted_state more after)) ≡ shifted_slots more (with_state settled_slots name (settled life now after))
      = (λ i. with_state (all i) name (one i)) ∙ put_in in
      λ i. record (shifted_node more old) { last = now + more; next_id = id; lookup = lookups i; slots = slots_are i }

  name_moves_shifted : (name : NameValue) (event : NameEvent) (new : NodeValue) (m : Option MessageValue) (told : Told) → NameMoves old now name event new m told → NameMoves (shifted_node more old) (now + more) name event (shifted_node more new) m told
  name_moves_shifted name event new m told x = record {
    after = shifted_state more x.after;
    move = rw (state_at_shifted name) (move_shifted more now old name (state_at old now name) event x.after m told new.next_id x.move);
    node = ap (shifted_node more) x.node ∙ sym (changed_shifted name x.after new.next_id);
  }

  sends_shifted : (name : NameValue) (event : NameEvent) (new : NodeValue) (octets : List ℕ) → Sends old now name event new octets → Sends (shifted_node more old) (now + more) name event (shifted_node more new) octets
  sends_shifted name event new octets x = record { message = x.message; moves = name_moves_shifted name event new (Some x.message) nothing x.moves; written = x.written }

  looks_up_shifted : (lookup after : Option Lookup) (id : ℕ) (new : NodeValue) → option_map (shifted_lookup more) lookup ≡ after → LooksUp old now lookup id new → LooksUp (shifted_node more old) (now + more) after id (shifted_node more new)
  looks_up_shifted lookup after id new is looks =
      let all = sym (slots_shifted more now old.config.life old.slots) in
      ap (shifted_node more) looks ∙ (λ i. record (shifted_node more old) { last = now + more; lookup = is i; next_id = id; slots = all i })

  opens_shifted : (name : NameValue) (to : Addr) (wanted : Wanted) (new : NodeValue) (octets : List ℕ) → Opens old now name to wanted new octets → Opens (shifted_node more old) (now + more) name to wanted (shifted_node more new) octets
  opens_shifted name to wanted new octets x =
      let e = sym (swap now more 5000) in record {
        opens = looks_up_shifted _ _ _ new (λ i. Some (record { id = old.next_id; name = name; to = to; wanted = wanted; tries = 1; due = e i })) x.opens;
        written = x.written;
      }

  -- ---- a poll

  slot_due_shifted : (slot : Option Slot) → slot_due old now ≡ slot → slot_due (shifted_node more old) (now + more) ≡ option_map (shifted_slot more) slot
  slot_due_shifted slot is =
      let life = old.config.life in
      ap (first_due life (now + more)) (slots_shifted more now life old.slots) ∙ first_due_shifted more now life (map (settled_slot life now) old.slots) ∙ ap (option_map (shifted_slot more)) is

  lookup_due_shifted : (lookup : Option Lookup) → lookup_due old now ≡ lookup → lookup_due (shifted_node more old) (now + more) ≡ option_map (shifted_lookup more) lookup
  lookup_due_shifted lookup is = ap (due_lookup (now + more)) (lookup_is_shifted more now old.lookup) ∙ due_lookup_shifted more now (settled_lookup now old.lookup) ∙ ap (option_map (shifted_lookup more)) is

  polls_shifted : (new : NodeValue) (to : Option Addr) (octets : List ℕ) → Polls old now new to octets → Polls (shifted_node more old) (now + more) (shifted_node more new) to octets
  polls_shifted _ _ _ (polls_name slot new octets due sends) =
      polls_name (record slot { state = shifted_state more slot.state }) (shifted_node more new) octets (slot_due_shifted (Some slot) due) (sends_shifted slot.name poll new octets sends)
  polls_shifted _ _ _ (polls_lookup l new octets still due looks written) =
      let e = sym (swap now more 5000) in
      polls_lookup (record l { due = l.due + more }) (shifted_node more new) octets (slot_due_shifted None still) (lookup_due_shifted (Some l) due)
      (looks_up_shifted _ _ _ new (λ i. Some (record l { tries = l.tries + 1; due = e i })) looks) written
  polls_shifted _ _ _ (polls_nothing new still ended passes) = polls_nothing (shifted_node more new) (slot_due_shifted None still) (lookup_due_shifted None ended) (passes_shifted new passes)

  -- ---- a message

  hears_shifted : (from : Addr) (name : NameValue) (message : MessageValue) (new : NodeValue) (m : Option MessageValue) (told : Told) → NodeHears old now from name message new m told → NodeHears (shifted_node more old) (now + more) from name message (shifted_node more new) m told
  hears_shifted from name message _ _ _ (from_server new told is moves) = from_server (shifted_node more new) told is (name_moves_shifted name (hear message) new None told moves)
  hears_shifted from name message _ _ _ (from_stranger new other passes) = from_stranger (shifted_node more new) other (passes_shifted new passes)

  listed_for_shifted : (name : NameValue) → is_listed_for (shifted_node more old) (now + more) name ≡ is_listed_for old now name
  listed_for_shifted name = ap (λ (k : Option Kind). is_star name || is_some k) (ap held_kind (state_at_shifted name) ∙ held_kind_shifted more (state_at old now name))

  names_shifted : (name : NameValue) → names_listed (shifted_node more old) (now + more) name ≡ names_listed old now name
  names_shifted name =
      let life = old.config.life in
      ap (flat_map (listed name.scope)) (slots_shifted more now life old.slots) ∙ listed_shifted more name.scope (map (settled_slot life now) old.slots)

  lists_shifted : (id : ℕ) (name : NameValue) (new : NodeValue) (m : Option MessageValue) (told : Told) → Lists old now id name new m told → Lists (shifted_node more old) (now + more) id name (shifted_node more new) m told
  lists_shifted id name _ _ _ (lists_names new is passes) =
      subst (λ (names : List ℕ). Lists (shifted_node more old) (now + more) id name (shifted_node more new) (Some (status id name names)) replied) (names_shifted name)
      (lists_names (shifted_node more new) (listed_for_shifted name ∙ is) (passes_shifted new passes))
  lists_shifted id name _ _ _ (lists_nothing new other passes) = lists_nothing (shifted_node more new) (listed_for_shifted name ∙ other) (passes_shifted new passes)

  ending_shifted : (from : Addr) (message : MessageValue) → ends (settled_lookup (now + more) (option_map (shifted_lookup more) old.lookup)) from message ≡ ends (settled_lookup now old.lookup) from message
  ending_shifted from message = ap (λ (l : Option Lookup). ends l from message) (lookup_is_shifted more now old.lookup) ∙ ends_shifted more (settled_lookup now old.lookup) from message

  ended_shifted : (from : Addr) (message : MessageValue) (tells : Told) (new : NodeValue) (m : Option MessageValue) (told : Told) → Ends old now from message tells new m told → Ends (shifted_node more old) (now + more) from message tells (shifted_node more new) m told
  ended_shifted from message tells _ _ _ (is_answered new is looks) = is_answered (shifted_node more new) (ending_shifted from message ∙ is) (looks_up_shifted None None _ new refl looks)
  ended_shifted from message tells _ _ _ (is_unanswered new other passes) = is_unanswered (shifted_node more new) (ending_shifted from message ∙ other) (passes_shifted new passes)

  idles_shifted : (new : NodeValue) (m : Option MessageValue) (told : Told) → Idles old now new m told → Idles (shifted_node more old) (now + more) (shifted_node more new) m told
  idles_shifted _ _ _ (idles new passes) = idles (shifted_node more new) (passes_shifted new passes)

  takes_shifted : (from : Addr) (message : MessageValue) (new : NodeValue) (m : Option MessageValue) (told : Told) → NodeTakes old now from message new m told → NodeTakes (shifted_node more old) (now + more) from message (shifted_node more new) m told
  takes_shifted from (registered rcode r) new m told x = hears_shifted from r.name (registered rcode r) new m told x
  takes_shifted from (released id rcode name kind addr) new m told x = hears_shifted from name (released id rcode name kind addr) new m told x
  takes_shifted from (wait id name ttl) new m told x = hears_shifted from name (wait id name ttl) new m told x
  takes_shifted from (status_request id name) new m told x = lists_shifted id name new m told x
  takes_shifted from (found id name ttl entries cut) new m told x = ended_shifted from (found id name ttl entries cut) (finds entries cut) new m told x
  takes_shifted from (not_found id rcode name) new m told x = ended_shifted from (not_found id rcode name) finds_none new m told x
  takes_shifted from (status id name names) new m told x = ended_shifted from (status id name names) (lists names) new m told x
  takes_shifted from message new m told x = idles_shifted new m told x

  octets_shifted : (from : Addr) (octets : List ℕ) (new : NodeValue) (m : Option MessageValue) (told : Told) → NodeTakesOctets old now from octets new m told → NodeTakesOctets (shifted_node more old) (now + more) from octets (shifted_node more new) m told
  octets_shifted from octets _ _ _ (spelled message new m told is takes) = spelled message (shifted_node more new) m told is (takes_shifted from message new m told takes)
  octets_shifted from octets _ _ _ (unspelled new other passes) = unspelled (shifted_node more new) other (passes_shifted new passes)

  pub does_alike : (new : NodeValue) → DoesAlike more old now new
  does_alike new = record {
    sends = λ name event octets x. sends_shifted name event new octets x;
    opens = λ name to wanted octets x. opens_shifted name to wanted new octets x;
    polls = λ to octets x. polls_shifted new to octets x;
    handles = λ from octets told out x. (record { sent = x.sent; takes = octets_shifted from octets new x.sent told x.takes; written = x.written }, refl);
  }

  -- ---- what it tells

  open_shifted : is_some (settled_lookup (now + more) (option_map (shifted_lookup more) old.lookup)) ≡ is_some (settled_lookup now old.lookup)
  open_shifted = ap (λ (l : Option Lookup). is_some l) (lookup_is_shifted more now old.lookup) ∙ is_open_shifted more (settled_lookup now old.lookup)

  back : ltb (now + more) (old.last + more) ≡ ltb now old.last
  back = ltb_shifted now old.last more

  soon_shifted : (name : NameValue) → refreshing_soon (shifted_node more old) name ≡ shifted_node more (refreshing_soon old name)
  soon_shifted name =
      let state_is = ap due_soon (state_in_shifted more old.slots name) ∙ due_soon_shifted more (state_in old.slots name) in
      let slots_are = ap (with_state (shifted_slots more old.slots) name) state_is ∙ with_state_shifted more old.slots name (due_soon (state_in old.slots name)) in
      ap (λ (xs : List (Option Slot)). let node : NodeValue = record (shifted_node more old) { slots = xs } in node) slots_are

  pub tells_alike : (name : NameValue) → TellsAlike more old now name
  tells_alike name =
      let life = old.config.life in
      let opened_yet = open_shifted in
      let gone_back = back in
      let held = ap held_kind (state_at_shifted name) ∙ held_kind_shifted more (state_at old now name) in
      let known : held_at (now + more) (state_in (shifted_slots more old.slots) name) ≡ held_at now (state_in old.slots name)
      = ap (held_at (now + more)) (state_in_shifted more old.slots name) ∙ held_at_shifted more now (state_in old.slots name) in
      let busy = ap is_busy (state_at_shifted name) ∙ is_busy_shifted more (state_at old now name) in
      let quiet_yet = ap is_quiet (state_at_shifted name) ∙ is_quiet_shifted more (state_at old now name) in
      let starting = started_yet more now old.start (quiet life) in
      let room = ap has_room (slots_shifted more now life old.slots) ∙ has_room_shifted more (map (settled_slot life now) old.slots) in
      record {
        held = λ i. cond (gone_back i) None (known i);
        lookup = λ i. cond (gone_back i) false (opened_yet i);
        ask = λ i. cond (gone_back i) (Some ask_faults.ClockBack) (cond (is_star name) (Some ask_faults.BadName) (cond (busy i) (Some ask_faults.Busy) (cond (quiet_yet i || starting i) (Some ask_faults.Quiet) (cond (room i) None (Some ask_faults.Full)))));
        release = λ i. cond (gone_back i) (Some release_faults.ClockBack) (cond (is_some (held i)) None (Some release_faults.NotHeld));
        resolve = λ i. cond (gone_back i) (Some lookup_faults.ClockBack) (cond (is_star name) (Some lookup_faults.BadName) (cond (opened_yet i) (Some lookup_faults.Busy) None));
        status = λ i. cond (gone_back i) (Some lookup_faults.ClockBack) (cond (opened_yet i) (Some lookup_faults.Busy) None);
        soon = soon_shifted name;
      }

-- ---- a start

pub starts_alike : (more : ℕ) → StartsAlike more
starts_alike more slots addr server config now first_id =
    let free_slots = free slots in
    λ i. record { addr = addr; server = server; config = config; start = now + more; last = now + more; next_id = first_id; lookup = None; slots = free_slots i }
  where
    free : (count : ℕ) → replicate count None ≡ shifted_slots more (replicate count None)
    free zero = refl
    free (suc count) = ap (λ (xs : List (Option Slot)). None ∷ xs) (free count)
