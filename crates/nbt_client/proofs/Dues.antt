-- A poll that has something for an end leaves less that is due, so polls come to an end.
use Rattle.std.proofs.Common.{◌≡◌, ℕ, ◌+◌, ◌<◌, ◌≤◌, Bool, true, false, ltb, leb, List, [], ◌∷◌, length, map, Option, Some, None, refl, ap, arith}
use Rattle.std.specs.Prelude.{◌&&◌, is_some}
use Rattle.std.proofs.lemmas.Bool.{lt-leb, le-leb}
use Rattle.nbt_name.specs.declared.addr.Addr.{Addr}
use Rattle.nbt_name.specs.declared.addr.Kind.{Kind}
use Rattle.nbt_name.specs.Wire.{NameValue, same_name}
use Rattle.nbt_packet.specs.Message.{MessageValue}
use Rattle.nbt_lease.specs.Drift.{quiet}
use Rattle.nbt_node.specs.declared.state.State.{State}
use Rattle.nbt_node.specs.declared.state.State.TheVariants.{Idle, Asking, Held, Releasing, Resting}
use Rattle.nbt_node.specs.declared.transaction.Transaction.{Transaction}
use Rattle.nbt_node.specs.declared.state.Slot.{Slot}
use Rattle.nbt_node.specs.declared.lookup.Lookup.{Lookup}
use Rattle.nbt_node.specs.Transaction.{opened, is_over, is_next, next_due}
use Rattle.nbt_node.specs.Settling.{settled, rested}
use Rattle.nbt_node.specs.Node.{NodeValue, is_in, state_in, slot_of, put, with_state, settled_slot, settled_lookup, state_at}
use Rattle.nbt_node.specs.Moves.{Move, poll, Told, is_due, asks_again, gives_back_again, refreshes_again, refreshes}
use Rattle.nbt_node.specs.Calls.{Polls, polls_name, polls_lookup, due_lookup, lookup_due}
use Rattle.nbt_port.specs.PortCalls.{PortCall, Chain}
use Rattle.nbt_client.specs.Turning.{PollsTo, polls_to}

-- a settled state stays as it is
abbrev pub SettlingEnds : Type 0
SettlingEnds = (life now : ℕ) (state : State) → settled life now (settled life now state) ≡ settled life now state

-- ---- how much is due

abbrev one_if : Bool → ℕ
one_if true = 1
one_if false = 0

abbrev slot_dues : (life now : ℕ) → Option Slot → ℕ
slot_dues life now None = 0
slot_dues life now (Some slot) = one_if (is_due life now slot.state)

abbrev slots_dues : (life now : ℕ) → List (Option Slot) → ℕ
slots_dues life now [] = 0
slots_dues life now (slot ∷ slots) = slot_dues life now (settled_slot life now slot) + slots_dues life now slots

-- the sendings that a node has due at a moment
abbrev pub dues : ℕ → NodeValue → ℕ
dues now node = slots_dues node.config.life now node.slots + one_if (is_some (lookup_due node now))

-- ---- tests

later : (now : ℕ) → leb (now + 5000) now ≡ false
later now = lt-leb (now + 5000) now (omega arith)

and_false : (a b : Bool) → b ≡ false → (a && b) ≡ false
and_false true b e = e
and_false false b e = refl

and_both : (a b : Bool) → a ≡ true → b ≡ true → (a && b) ≡ true
and_both a b e f = rw (e, f) refl

not_next : (now tries : ℕ) → is_next now tries (next_due now) ≡ false
not_next now tries = and_false (ltb tries 3) (leb (now + 5000) now) (later now)

not_over : (now tries : ℕ) → is_over now tries (next_due now) ≡ false
not_over now tries = and_false (leb 3 tries) (leb (now + 5000) now) (later now)

rested_not_due : (life now last : ℕ) → is_due life now (rested life now last) ≡ false
rested_not_due life now last = go (ltb (last + quiet life) now) refl
  where
    go : (b : Bool) → ltb (last + quiet life) now ≡ b → is_due life now (rested life now last) ≡ false
    go true e = rw e refl
    go false e = rw e refl

-- ---- a move by a poll: what was due is due no more

held_not_due : (life now : ℕ) (kind : Kind) (ttl until renew : ℕ) (p : Transaction) (tries : ℕ)
    → is_due life now (settled life now (Held kind ttl until renew now (Some (record p { tries = tries; due = next_due now })))) ≡ false
held_not_due life now kind ttl until renew p tries = go (leb until now) refl
  where
    go : (b : Bool) → leb until now ≡ b → is_due life now (settled life now (Held kind ttl until renew now (Some (record p { tries = tries; due = next_due now })))) ≡ false
    go true e = rw e (rested_not_due life now now)
    go false e = rw (e, not_over now tries) (not_next now tries)

pub polled : (node : NodeValue) (now : ℕ) (name : NameValue) (before after : State) (message : Option MessageValue) (told : Told) (id : ℕ) → Move node now name before poll after message told id
    → (is_due node.config.life now before ≡ true) × (is_due node.config.life now (settled node.config.life now after) ≡ false)
polled node now name before after message told id (asks_again kind ttl last p is) = (is, rw (not_over now (p.tries + 1)) (not_next now (p.tries + 1)))
polled node now name before after message told id (gives_back_again kind last p is) = (is, rw (not_over now (p.tries + 1)) (not_next now (p.tries + 1)))
polled node now name before after message told id (refreshes_again kind ttl until renew last p is) = (is, held_not_due node.config.life now kind ttl until renew p (p.tries + 1))
polled node now name before after message told id (refreshes kind ttl until renew last half rest) =
    (and_both (leb renew now) (ltb (last + quiet node.config.life) now) (le-leb renew now half) (le-leb _ _ rest), held_not_due node.config.life now kind ttl until renew (opened node.next_id now) 1)

-- ---- one slot more or less

slot_dues_of : (life now : ℕ) (name : NameValue) (state : State) → slot_dues life now (slot_of name state) ≡ one_if (is_due life now state)
slot_dues_of life now name Idle = refl
slot_dues_of life now name (Asking kind ttl last p) = refl
slot_dues_of life now name (Held kind ttl until renew last pending) = refl
slot_dues_of life now name (Releasing kind last p) = refl
slot_dues_of life now name (Resting last) = refl

module _ (ends : SettlingEnds) (life now : ℕ) where
  settled_of : (name : NameValue) (state : State) → settled_slot life now (slot_of name (settled life now state)) ≡ slot_of name (settled life now state)
  settled_of name state = go (settled life now state) (ends life now state)
    where
      go : (s : State) → settled life now s ≡ s → settled_slot life now (slot_of name s) ≡ slot_of name s
      go Idle e = refl
      go (Asking kind ttl last p) e = ap (slot_of name) e
      go (Held kind ttl until renew last pending) e = ap (slot_of name) e
      go (Releasing kind last p) e = ap (slot_of name) e
      go (Resting last) e = ap (slot_of name) e

  settled_twice : (slot : Option Slot) → settled_slot life now (settled_slot life now slot) ≡ settled_slot life now slot
  settled_twice None = refl
  settled_twice (Some slot) = settled_of slot.name slot.state

  pub dues_settled : (slots : List (Option Slot)) → slots_dues life now (map (settled_slot life now) slots) ≡ slots_dues life now slots
  dues_settled [] = refl
  dues_settled (slot ∷ slots) = rw (settled_twice slot, dues_settled slots) refl

  -- the slot of a name that has something due
  there : (slot : Slot) → is_due life now (settled life now slot.state) ≡ true → slot_of slot.name (settled life now slot.state) ≡ Some (record { name = slot.name; state = settled life now slot.state })
  there slot due = go (settled life now slot.state) due
    where
      go : (s : State) → is_due life now s ≡ true → slot_of slot.name s ≡ Some (record { name = slot.name; state = s })
      go Idle e = absurd cc
      go (Asking kind ttl last p) e = refl
      go (Held kind ttl until renew last pending) e = refl
      go (Releasing kind last p) e = refl
      go (Resting last) e = refl

  -- the slot of another name
  in_behind : (name other : NameValue) (s : State) (rest : List (Option Slot)) → same_name other name ≡ false → is_in (slot_of other s ∷ rest) name ≡ is_in rest name
  in_behind name other Idle rest e = refl
  in_behind name other (Asking kind ttl last p) rest e = rw e refl
  in_behind name other (Held kind ttl until renew last pending) rest e = rw e refl
  in_behind name other (Releasing kind last p) rest e = rw e refl
  in_behind name other (Resting last) rest e = rw e refl

  put_behind : (name other : NameValue) (s after : State) (rest : List (Option Slot)) → same_name other name ≡ false → put (slot_of other s ∷ rest) name after ≡ slot_of other s ∷ put rest name after
  put_behind name other Idle after rest e = refl
  put_behind name other (Asking kind ttl last p) after rest e = rw e refl
  put_behind name other (Held kind ttl until renew last pending) after rest e = rw e refl
  put_behind name other (Releasing kind last p) after rest e = rw e refl
  put_behind name other (Resting last) after rest e = rw e refl

  module _ (name : NameValue) (after : State) where
    known : (slots : List (Option Slot)) → is_due life now (settled life now (state_in slots name)) ≡ true → is_in (map (settled_slot life now) slots) name ≡ true
    known [] due = absurd cc
    known (None ∷ rest) due = known rest due
    known (Some slot ∷ rest) due = go (same_name slot.name name) refl (known rest)
      where
        go : (b : Bool) → same_name slot.name name ≡ b → (is_due life now (settled life now (state_in rest name)) ≡ true → is_in (map (settled_slot life now) rest) name ≡ true)
            → is_in (map (settled_slot life now) (Some slot ∷ rest)) name ≡ true
        go true same behind = let d = rw same at due in rw (there slot d, same) refl
        go false other behind = let d = rw other at due in rw (in_behind name slot.name (settled life now slot.state) (map (settled_slot life now) rest) other) (behind d)

    abbrev Lessens : List (Option Slot) → Type 0
    Lessens slots = slots_dues life now slots ≡ slots_dues life now (put (map (settled_slot life now) slots) name (settled life now after)) + 1

    less : (slots : List (Option Slot)) → is_due life now (settled life now (state_in slots name)) ≡ true → is_due life now (settled life now after) ≡ false → Lessens slots
    less [] due done = absurd cc
    less (None ∷ rest) due done = let h = less rest due done in omega (arith, h)
    less (Some slot ∷ rest) due done = go (same_name slot.name name) refl (λ d. less rest d done)
      where
        front : slot_dues life now (slot_of slot.name (settled life now slot.state)) ≡ one_if (is_due life now (settled life now slot.state))
        front = slot_dues_of life now slot.name (settled life now slot.state)

        go : (b : Bool) → same_name slot.name name ≡ b → (is_due life now (settled life now (state_in rest name)) ≡ true → Lessens rest) → Lessens (Some slot ∷ rest)
        go true same behind =
            let d = rw same at due in
            let f = rw d at front in
            let back = slot_dues_of life now name (settled life now after) in
            let b = rw done at back in
            let all = dues_settled rest in
            rw (there slot d, same, settled_of name after, d, b, all) (omega arith)
        go false other behind =
            let d = rw other at due in
            let h : slots_dues life now rest ≡ slots_dues life now (put (map (settled_slot life now) rest) name (settled life now after)) + 1 = behind d in
            rw (put_behind name slot.name (settled life now slot.state) (settled life now after) (map (settled_slot life now) rest) other, settled_of slot.name slot.state) (omega (arith, h))

    pub dues_put : (slots : List (Option Slot)) → is_due life now (settled life now (state_in slots name)) ≡ true → is_due life now (settled life now after) ≡ false
        → slots_dues life now slots ≡ slots_dues life now (with_state (map (settled_slot life now) slots) name (settled life now after)) + 1
    dues_put slots due done = rw (known slots due) (less slots due done)

-- ---- lookups

lookup_twice : (now : ℕ) (lookup : Option Lookup) → settled_lookup now (settled_lookup now lookup) ≡ settled_lookup now lookup
lookup_twice now None = refl
lookup_twice now (Some l) = go (is_over now l.tries l.due) refl
  where
    go : (b : Bool) → is_over now l.tries l.due ≡ b → settled_lookup now (settled_lookup now (Some l)) ≡ settled_lookup now (Some l)
    go true e = rw e refl
    go false e = rw (e, e) refl

sent_again : (now : ℕ) (l : Lookup) (tries : ℕ) → due_lookup now (settled_lookup now (Some (record l { tries = tries; due = next_due now }))) ≡ None
sent_again now l tries = rw (not_over now tries, not_next now tries) refl

-- ---- a poll that has something

pub polls_fewer : SettlingEnds → (now : ℕ) (old new : NodeValue) (to : Addr) (octets : List ℕ) → Polls old now new (Some to) octets → dues now new < dues now old
polls_fewer ends now old new to octets (polls_name slot n o is sends) =
    let moves = sends.moves in
    let p = polled old now slot.name (state_at old now slot.name) moves.after (Some sends.message) _ new.next_id moves.move in
    let h = dues_put ends old.config.life now slot.name moves.after old.slots p.0 p.1 in
    rw (moves.node, lookup_twice now old.lookup) (omega (arith, h))
polls_fewer ends now old new to octets (polls_lookup l n o is due looks writes) =
    let h = dues_settled ends old.config.life now old.slots in
    let a = sent_again now l (l.tries + 1) in
    rw (looks, a, due) (omega (arith, h))

-- ---- polls at one moment: no more than were due at first

lessens : SettlingEnds → (now : ℕ) (old : NodeValue) (act : PortCall) (new : NodeValue) → PollsTo now old act new → dues now new < dues now old
lessens ends now old _ _ (polls_to to octets new polls) = polls_fewer ends now old new to octets polls

polls_lessen : SettlingEnds → (now : ℕ) (acts : List PortCall) (old new : NodeValue) → Chain (PollsTo now) old acts new → length acts + dues now new ≤ dues now old
polls_lessen ends now [] old new polls = rw polls (omega arith)
polls_lessen ends now (act ∷ acts) old new polls =
    let fewer = lessens ends now old act polls.0 polls.1 in
    let rest = polls_lessen ends now acts polls.0 new polls.2 in
    omega (arith, fewer, rest)

at_most_one : (b : Bool) → one_if b ≤ 1
at_most_one true = omega arith
at_most_one false = omega arith

slots_dues_few : (life now : ℕ) (slots : List (Option Slot)) → slots_dues life now slots ≤ length slots
slots_dues_few life now [] = omega arith
slots_dues_few life now (slot ∷ slots) = let one = of_slot (settled_slot life now slot) in let rest = slots_dues_few life now slots in omega (arith, one, rest)
  where
    of_slot : (slot : Option Slot) → slot_dues life now slot ≤ 1
    of_slot None = omega arith
    of_slot (Some s) = at_most_one (is_due life now s.state)

pub few_polls : SettlingEnds → (now : ℕ) (old new : NodeValue) (acts : List PortCall) → Chain (PollsTo now) old acts new → length acts ≤ length old.slots + 1
few_polls ends now old new acts polls =
    let all = polls_lessen ends now acts old new polls in
    let slots = slots_dues_few old.config.life now old.slots in
    let lookup = at_most_one (is_some (lookup_due old now)) in
    omega (arith, all, slots, lookup)
