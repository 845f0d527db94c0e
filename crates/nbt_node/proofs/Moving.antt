-- What a call that moves one name makes of the node.
use Rattle.std.proofs.Common.{◌≡◌, ◌≢◌, ℕ, ◌+◌, ◌<◌, ◌≤◌, Bool, true, false, cond, List, [], length, map, Option, Some, None, refl, sym, ap, subst, ◌∙◌, inl, inr, leb-false}
use Rattle.std.specs.Prelude.{◌⊎◌, ◌||◌, nat_lt, nat_le, MatchOption}
use Rattle.std.proofs.lemmas.List.{length-map}
use Rattle.std.proofs.Math.Nat.{le_trans}
use Rattle.std.proofs.lemmas.Bool.{or_parts}
use Rattle.nbt_name.specs.declared.addr.Addr.{Addr}
use Rattle.nbt_name.specs.declared.addr.Kind.{Kind}
use Rattle.nbt_name.specs.Wire.{NameValue}
use Rattle.nbt_packet.specs.Message.{MessageValue}
use Rattle.nbt_lease.specs.Drift.{quiet}
use Rattle.nbt_node.specs.declared.fault.AskFault.TheVariants as fault
use Rattle.nbt_node.specs.declared.lookup.Lookup.{Lookup}
use Rattle.nbt_node.specs.declared.polling.Sending.{Sending}
use Rattle.nbt_node.specs.declared.state.State.{State}
use Rattle.nbt_node.specs.declared.state.State.TheVariants.{Idle}
use Rattle.nbt_node.specs.declared.state.Slot.{Slot}
use Rattle.nbt_node.specs.Settling.{settled}
use Rattle.nbt_node.specs.Inner.Keeping.{AreAwake, IsNode}
use Rattle.nbt_node.specs.Node.{NodeValue, is_in, has_room, AreDistinct, state_in, state_of, with_state, settled_slot, state_at, changed, settled_node}
use Rattle.nbt_node.specs.Transaction.{next_due}
use Rattle.nbt_node.specs.Moves.{NameEvent, ask, poll, hear, nothing, Told, Move, NameMoves, asks, unmoved}
use Rattle.nbt_packet.specs.Spelling.{AreWritten}
use Rattle.nbt_node.specs.Calls.{is_busy, is_quiet, ask_refusal, question, LooksUp, slot_due, lookup_due, due_lookup, Polls, polls_name, polls_lookup, polls_nothing}
use Rattle.nbt_node.specs.Datagrams.{same_end, NodeHears, from_server, from_stranger, ends, Ends, is_answered, is_unanswered}
use Rattle.nbt_node.specs.Inner.Sending.{IsSending, request_in}
use Rattle.nbt_node.proofs.Due.{known_due}
use Rattle.nbt_node.proofs.Awake.{awake-settled, awake-with_state}
use Rattle.nbt_node.proofs.Known.{absent, distinct-settled, state_in-settled, distinct-with_state, length-with_state, with_state-other, with_state-same}

-- what the node keeps, it keeps: where time alone passes, and where a name has another state then
pub settles : (old new : NodeValue) (count life now : ℕ) (xs ys : List (Option Slot)) → IsNode count old → old.slots ≡ xs → new.slots ≡ ys → ys ≡ map (settled_slot life now) xs
    → new.start ≡ old.start → new.last ≡ now → old.last ≤ now → IsNode count new
settles old new count life now xs ys is old_is new_is settled_is start_is last_is later = record {
  slots_at_most = is.slots_at_most;
  slots_at_least = is.slots_at_least;
  count_is = ap length (new_is ∙ settled_is) ∙ length-map xs (settled_slot life now) ∙ ap length (sym old_is) ∙ is.count_is;
  apart = subst AreDistinct (sym (new_is ∙ settled_is)) (distinct-settled life now xs (subst AreDistinct old_is is.apart));
  awake = subst AreAwake (sym (new_is ∙ settled_is)) (awake-settled life now xs);
  since = rw (start_is, last_is) (le_trans is.since later);
}

pub keeps : (old new : NodeValue) (count life now : ℕ) (xs ys zs : List (Option Slot)) (name : NameValue) (state : State) → IsNode count old → old.slots ≡ xs → new.slots ≡ zs
    → ys ≡ map (settled_slot life now) xs → zs ≡ with_state ys name state → new.start ≡ old.start → new.last ≡ now → old.last ≤ now → IsNode count new
keeps old new count life now xs ys zs name state is old_is new_is settled_is changes start_is last_is later =
    let mid : NodeValue = record new { slots = ys } in
    let then_is : IsNode count mid = settles old mid count life now xs ys is old_is refl settled_is start_is last_is later in
    record {
      slots_at_most = is.slots_at_most;
      slots_at_least = is.slots_at_least;
      count_is = ap length (new_is ∙ changes) ∙ length-with_state ys name state ∙ then_is.count_is;
      apart = subst AreDistinct (sym (new_is ∙ changes)) (distinct-with_state ys name state then_is.apart);
      awake = subst AreAwake (sym (new_is ∙ changes)) (awake-with_state ys name state then_is.awake);
      since = then_is.since;
    }

-- and where a name has another state, without time
pub puts : (old new : NodeValue) (count : ℕ) (xs zs : List (Option Slot)) (name : NameValue) (state : State) → IsNode count old → old.slots ≡ xs → new.slots ≡ zs → zs ≡ with_state xs name state
    → new.start ≡ old.start → new.last ≡ old.last → IsNode count new
puts old new count xs zs name state is old_is new_is changes start_is last_is = record {
  slots_at_most = is.slots_at_most;
  slots_at_least = is.slots_at_least;
  count_is = ap length (new_is ∙ changes) ∙ length-with_state xs name state ∙ ap length (sym old_is) ∙ is.count_is;
  apart = subst AreDistinct (sym (new_is ∙ changes)) (distinct-with_state xs name state (subst AreDistinct old_is is.apart));
  awake = subst AreAwake (sym (new_is ∙ changes)) (awake-with_state xs name state (subst AreAwake old_is is.awake));
  since = rw (start_is, last_is) is.since;
}

-- ---- what becomes of each name

-- only time has passed
abbrev pub ByTimeAlone : NodeValue → ℕ → NodeValue → Type 0
ByTimeAlone old now new = (q : NameValue) → state_of new q ≡ state_at old now q

-- a name that is Idle stays so, unless it is asked for
from_idle : (node : NodeValue) (now : ℕ) (name : NameValue) (before : State) (event : NameEvent) (after : State) (sent : Option MessageValue) (told : Told) (next : ℕ) → Move node now name before event after sent told next
    → before ≡ Idle → ((kind : Kind) (ttl : ℕ) → event ≢ ask kind ttl) → after ≡ Idle
from_idle node now name _ _ _ _ _ _ (asks kind ttl rested) idle other = absurd (other kind ttl refl)
from_idle node now name _ _ _ _ _ _ (unmoved state message out) idle other = idle
from_idle node now name _ _ _ _ _ _ _ idle other = absurd cc

module _ (old new : NodeValue) (now : ℕ) (name : NameValue) (event : NameEvent) (sent : Option MessageValue) (told : Told) where
  -- a move of one name is the node's
  pub name_moves : (after : State) (next : ℕ) → Move old now name (state_at old now name) event after sent told next → new ≡ changed old now name after next → NameMoves old now name event new sent told
  name_moves after next move is =
      let next_is : new.next_id ≡ next = ap (λ (n : NodeValue). n.next_id) is in
      record {
        after = after;
        move = subst (λ (id : ℕ). Move old now name (state_at old now name) event after sent told id) (sym next_is) move;
        node = is ∙ ap (λ (id : ℕ). changed old now name after id) (sym next_is);
      }

  -- every other name changes by time alone
  pub others_by_time : NameMoves old now name event new sent told → AreDistinct old.slots → (q : NameValue) → q ≢ name → state_of new q ≡ state_at old now q
  others_by_time moves apart q ne =
      ap (λ (n : NodeValue). state_in n.slots q) moves.node
      ∙ with_state-other (map (settled_slot old.config.life now) old.slots) name (settled old.config.life now moves.after) q ne
      ∙ state_in-settled old.config.life now old.slots q apart

  -- no name has two slots
  pub moved_apart : NameMoves old now name event new sent told → AreDistinct old.slots → AreDistinct new.slots
  moved_apart moves apart = subst AreDistinct (sym (ap (λ (n : NodeValue). n.slots) moves.node))
      (distinct-with_state (map (settled_slot old.config.life now) old.slots) name (settled old.config.life now moves.after) (distinct-settled old.config.life now old.slots apart))

  -- the name's own state, which is settled once more
  named_in : (moves : NameMoves old now name event new sent told) → AreDistinct old.slots
      → (is_in (map (settled_slot old.config.life now) old.slots) name ≡ false → (has_room (map (settled_slot old.config.life now) old.slots) ≡ true) ⊎ (settled old.config.life now moves.after ≡ Idle))
      → state_of new name ≡ settled old.config.life now moves.after
  named_in moves apart room =
      ap (λ (n : NodeValue). state_in n.slots name) moves.node
      ∙ with_state-same (map (settled_slot old.config.life now) old.slots) name (settled old.config.life now moves.after) (distinct-settled old.config.life now old.slots apart) room

  -- of a name that is asked for while there is room, and by any other event
  pub asked_is : (moves : NameMoves old now name event new sent told) → AreDistinct old.slots → has_room (map (settled_slot old.config.life now) old.slots) ≡ true → state_of new name ≡ settled old.config.life now moves.after
  asked_is moves apart room = named_in moves apart (λ out. inl room)

  pub known_is : (moves : NameMoves old now name event new sent told) → AreDistinct old.slots → ((kind : Kind) (ttl : ℕ) → event ≢ ask kind ttl) → state_of new name ≡ settled old.config.life now moves.after
  known_is moves apart other =
      named_in moves apart
      (λ out. inr (ap (settled old.config.life now) (from_idle old now name (state_at old now name) event moves.after sent told new.next_id moves.move (idle_at out) other)))
    where
      idle_at : is_in (map (settled_slot old.config.life now) old.slots) name ≡ false → state_at old now name ≡ Idle
      idle_at out = sym (state_in-settled old.config.life now old.slots name apart) ∙ absent (map (settled_slot old.config.life now) old.slots) name out

-- ---- what is known where an ask isn't refused

pub record MayAsk (node : NodeValue) (now : ℕ) (name : NameValue) : Type 0 where
  pub idle : state_at node now name ≡ Idle
  pub rested : node.start + quiet node.config.life < now
  pub room : has_room (map (settled_slot node.config.life now) node.slots) ≡ true

none_of : {X : Type 0} (b : Bool) (x : X) (o : Option X) → None ≡ cond b (Some x) o → (b ≡ false) × (None ≡ o)
none_of true x o e = absurd cc
none_of false x o e = (refl, e)

neither_is_idle : (state : State) → is_busy state ≡ false → is_quiet state ≡ false → state ≡ Idle
neither_is_idle Idle busy rests = refl
neither_is_idle _ busy rests = absurd cc

pub may_ask : (node : NodeValue) (now : ℕ) (name : NameValue) → None ≡ ask_refusal node now name → MayAsk node now name
may_ask node now name e =
    let clock = none_of (nat_lt now node.last) _ _ e in
    let star = none_of _ _ _ clock.1 in
    let busy = none_of (is_busy (state_at node now name)) _ _ star.1 in
    let rests = none_of (is_quiet (state_at node now name) || nat_le now (node.start + quiet node.config.life)) _ _ busy.1 in
    let still = or_parts (is_quiet (state_at node now name)) (nat_le now (node.start + quiet node.config.life)) rests.0 in
    record {
      idle = neither_is_idle (state_at node now name) busy.0 still.0;
      rested = leb-false now (node.start + quiet node.config.life) still.1;
      room = roomy (has_room (map (settled_slot node.config.life now) node.slots)) rests.1;
    }
  where
    roomy : (b : Bool) → None ≡ cond b None (Some fault.Full) → b ≡ true
    roomy true e = refl
    roomy false e = absurd cc

-- ---- time alone

-- every name, where only time has passed; and no name has two slots
pub by_time : (old new : NodeValue) (now : ℕ) → new.slots ≡ (settled_node old now).slots → AreDistinct old.slots → ByTimeAlone old now new
by_time old new now is apart q = ap (λ (xs : List (Option Slot)). state_in xs q) is ∙ state_in-settled old.config.life now old.slots q apart

pub settled_apart : (old new : NodeValue) (now : ℕ) → new.slots ≡ (settled_node old now).slots → AreDistinct old.slots → AreDistinct new.slots
settled_apart old new now is apart = subst AreDistinct (sym is) (distinct-settled old.config.life now old.slots apart)

-- ---- lookups

pub looks_up : (old mid new : NodeValue) (now : ℕ) (lookup : Option Lookup) (next : ℕ) → mid ≡ settled_node old now → new ≡ record mid { lookup = lookup; next_id = next } → LooksUp old now lookup next new
looks_up old mid new now lookup next mid_is new_is = new_is ∙ ap (λ (n : NodeValue). let m : NodeValue = record n { lookup = lookup; next_id = next } in m) mid_is

module _ (old mid new : NodeValue) (now : ℕ) (before after : Option Lookup) (to : Option Addr) (octets : List ℕ) (mid_is : mid ≡ settled_node old now) (before_is : mid.lookup ≡ before)
    (new_is : new ≡ record mid { lookup = after }) (no_slot : slot_due old now ≡ None) where
  lookup_is : lookup_due old now ≡ due_lookup now before
  lookup_is = ap (λ (n : NodeValue). due_lookup now n.lookup) (sym mid_is) ∙ ap (due_lookup now) before_is

  pub polled_lookup : MatchOption (due_lookup now before) ((after ≡ before) × (to ≡ None) × (octets ≡ []))
      (λ l. (after ≡ Some (record l { tries = l.tries + 1; due = next_due now })) × (to ≡ Some l.to) × AreWritten (Some (question l)) octets) → Polls old now new to octets
  polled_lookup polled = go (due_lookup now before) refl polled
    where
      go : (o : Option Lookup) → due_lookup now before ≡ o → MatchOption o ((after ≡ before) × (to ≡ None) × (octets ≡ []))
          (λ l. (after ≡ Some (record l { tries = l.tries + 1; due = next_due now })) × (to ≡ Some l.to) × AreWritten (Some (question l)) octets) → Polls old now new to octets
      go None e (same, nowhere, empty) =
          let unchanged : new ≡ mid = new_is ∙ ap (λ (l : Option Lookup). let m : NodeValue = record mid { lookup = l } in m) (same ∙ sym before_is) in
          rw (nowhere, empty) (polls_nothing new no_slot (lookup_is ∙ e) (unchanged ∙ mid_is))
      go (Some l) e (next, there, written) =
          rw there (
          polls_lookup l new octets no_slot (lookup_is ∙ e)
          (looks_up old mid new now (Some (record l { tries = l.tries + 1; due = next_due now })) old.next_id mid_is
          (new_is ∙ ap (λ (o : Option Lookup). let m : NodeValue = record mid { lookup = o } in m) next ∙ ap (λ (id : ℕ). let m : NodeValue = record mid { lookup = Some (record l { tries = l.tries + 1; due = next_due now }); next_id = id } in m) (ap (λ (n : NodeValue). n.next_id) mid_is)))
          written
          )

-- ---- a poll that sends what a name has due

pub polls_sending : (old new : NodeValue) (now : ℕ) (kept : Slot) (sending : Sending) (octets : List ℕ) → AreDistinct old.slots → slot_due old now ≡ Some kept
    → IsSending old.config.life now old.next_id kept.name kept.state sending → new ≡ changed old now sending.name sending.state sending.next_id
    → AreWritten (request_in old.addr.ip sending.name sending.state) octets → Polls old now new (Some old.server) octets
polls_sending old new now kept sending octets apart due is new_is written =
    let known : state_in (map (settled_slot old.config.life now) old.slots) kept.name ≡ kept.state =
    (known_due old.config.life now (map (settled_slot old.config.life now) old.slots) kept (distinct-settled old.config.life now old.slots apart) due).0
    in
    let state_is : state_at old now kept.name ≡ kept.state = sym (state_in-settled old.config.life now old.slots kept.name apart) ∙ known in
    let moves = is.moves old refl refl in
    let message : MessageValue = moves.0 in
    let move : Move old now kept.name (state_at old now kept.name) poll sending.state (Some message) nothing sending.next_id = rw state_is moves.2 in
    let whole : new ≡ changed old now kept.name sending.state sending.next_id = new_is ∙ ap (λ (n : NameValue). changed old now n sending.state sending.next_id) is.name_is in
    let asks : request_in old.addr.ip sending.name sending.state ≡ Some message = ap (λ (n : NameValue). request_in old.addr.ip n sending.state) is.name_is ∙ moves.1 in
    polls_name kept new octets due
    (record { message = message; moves = name_moves old new now kept.name poll (Some message) nothing sending.state sending.next_id move whole; written = subst (λ (m : Option MessageValue). AreWritten m octets) asks written })

-- ---- what is said about a name

-- by a stranger, and by the server; the node as the code has it open is the node before
pub ignored : (old inside new : NodeValue) (now : ℕ) (from : Addr) (name : NameValue) (message : MessageValue) → inside ≡ old → false ≡ same_end from inside.server → new ≡ settled_node old now
    → NodeHears old now from name message new None nothing
ignored old inside new now from name message inside_is stranger new_is =
    from_stranger new (ap (λ (n : NodeValue). same_end from n.server) (sym inside_is) ∙ sym stranger) new_is

pub heard : (old inside new : NodeValue) (now : ℕ) (from : Addr) (name : NameValue) (message : MessageValue) → inside ≡ old → true ≡ same_end from inside.server → (after : State) (told : Told)
    → Move old now name (state_at old now name) (hear message) after None told old.next_id → new ≡ changed old now name after inside.next_id → NodeHears old now from name message new None told
heard old inside new now from name message inside_is server after told move new_is =
    let whole : new ≡ changed old now name after old.next_id = new_is ∙ ap (λ (n : NodeValue). changed old now name after n.next_id) inside_is in
    from_server new told (ap (λ (n : NodeValue). same_end from n.server) (sym inside_is) ∙ sym server)
    (name_moves old new now name (hear message) None told after old.next_id move whole)

-- ---- what may end the lookup: the node as the code has it open is the settled one

pub unanswered : (old mid inside : NodeValue) (now : ℕ) (from : Addr) (message : MessageValue) (told : Told) → mid ≡ settled_node old now → inside ≡ mid
    → false ≡ ends inside.lookup from message → Ends old now from message told mid None nothing
unanswered old mid inside now from message told mid_is inside_is other =
    is_unanswered mid (ap (λ (n : NodeValue). ends n.lookup from message) (sym (inside_is ∙ mid_is)) ∙ sym other) mid_is

pub answered : (old mid inside new : NodeValue) (now : ℕ) (from : Addr) (message : MessageValue) (told : Told) → mid ≡ settled_node old now → inside ≡ mid → new ≡ record inside { lookup = None }
    → true ≡ ends inside.lookup from message → Ends old now from message told new None told
answered old mid inside new now from message told mid_is inside_is new_is end =
    let next_is : inside.next_id ≡ old.next_id = ap (λ (n : NodeValue). n.next_id) (inside_is ∙ mid_is) in
    let whole : new ≡ record inside { lookup = None; next_id = old.next_id } = new_is ∙ ap (λ (id : ℕ). let n : NodeValue = record inside { lookup = None; next_id = id } in n) next_is in
    is_answered new (ap (λ (n : NodeValue). ends n.lookup from message) (sym (inside_is ∙ mid_is)) ∙ sym end) (looks_up old inside new now None old.next_id (inside_is ∙ mid_is) whole)
