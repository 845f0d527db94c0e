-- What a call of a node does is determined.
use Rattle.std.proofs.Common.{◌≡◌, ℕ, ◌+◌, true, false, List, Option, Some, None, refl, sym, ap, subst, ◌∙◌}
use Rattle.std.proofs.lemmas.Option.{same_Some}
use Rattle.nbt_name.specs.declared.addr.Addr.{Addr}
use Rattle.nbt_name.specs.Wire.{NameValue}
use Rattle.nbt_packet.specs.Message.{MessageValue, status_request, registered, released, found, not_found, status, wait}
use Rattle.nbt_packet.specs.Text.{text}
use Rattle.nbt_packet.specs.Spelling.{Spells, AreWritten}
use Rattle.nbt_node.specs.declared.lookup.Lookup.{Lookup}
use Rattle.nbt_node.specs.declared.lookup.Wanted.{Wanted}
use Rattle.nbt_node.specs.declared.state.Slot.{Slot}
use Rattle.nbt_node.specs.Node.{NodeValue, settled_node, state_at, changed}
use Rattle.nbt_node.specs.Transaction.{next_due}
use Rattle.nbt_node.specs.Moves.{NameEvent, poll, hear, Told, nothing, finds, finds_none, lists, NameMoves}
use Rattle.nbt_node.specs.Calls.{Sends, question, Opens, Polls, polls_name, polls_lookup, polls_nothing}
use Rattle.nbt_node.specs.Datagrams.{NodeHears, from_server, from_stranger, Lists, lists_names, lists_nothing, Ends, is_answered, is_unanswered, Idles, idles, NodeTakes, NodeTakesOctets, spelled, unspelled, Handles}
use Rattle.nbt_node.proofs.OneMove.{one_outcome}

not_both : {X : Type 0} (x : X) (o : Option X) → o ≡ None → o ≡ Some x → ⊥
not_both x o a b = let e : ◌≡◌ None (Some x) = sym a ∙ b in cc

one_written : (m : Option MessageValue) (x y : List ℕ) → AreWritten m x → AreWritten m y → x ≡ y
one_written None x y a b = a ∙ sym b
one_written (Some message) x y a b = a.0 ∙ sym b.0

-- the laws, by which others prove theirs
abbrev pub OneSending : Type 0
OneSending = (old a b : NodeValue) (now : ℕ) (name : NameValue) (event : NameEvent) (x y : List ℕ) → Sends old now name event a x → Sends old now name event b y → (a ≡ b) × (x ≡ y)

abbrev pub OnePoll : Type 0
OnePoll = (old a b : NodeValue) (now : ℕ) (to other : Option Addr) (x y : List ℕ) → Polls old now a to x → Polls old now b other y → (a ≡ b) × (to ≡ other) × (x ≡ y)

abbrev pub OneHandling : Type 0
OneHandling = (old a b : NodeValue) (now : ℕ) (from : Addr) (octets : List ℕ) (t u : Told) (x y : List ℕ) → Handles old now from octets a t x → Handles old now from octets b u y → (a ≡ b) × (t ≡ u) × (x ≡ y)

module _ (old : NodeValue) (now : ℕ) where
  one_name_moves : (name : NameValue) (event : NameEvent) (a b : NodeValue) (m n : Option MessageValue) (t u : Told) → NameMoves old now name event a m t → NameMoves old now name event b n u → (a ≡ b) × (m ≡ n) × (t ≡ u)
  one_name_moves name event a b m n t u x y =
      let same = one_outcome old now name (state_at old now name) event x.after y.after m n t u a.next_id b.next_id x.move y.move in
      (x.node ∙ (λ i. changed old now name (same.0 i) (same.3 i)) ∙ sym y.node, same.1, same.2)

  pub one_sending : (name : NameValue) (event : NameEvent) (a b : NodeValue) (x y : List ℕ) → Sends old now name event a x → Sends old now name event b y → (a ≡ b) × (x ≡ y)
  one_sending name event a b x y first second =
      let same = one_name_moves name event a b (Some first.message) (Some second.message) nothing nothing first.moves second.moves in
      (same.0, one_written (Some second.message) x y (subst (λ (m : Option MessageValue). AreWritten m x) same.1 first.written) second.written)

  pub one_opening : (name : NameValue) (to : Addr) (wanted : Wanted) (a b : NodeValue) (x y : List ℕ) → Opens old now name to wanted a x → Opens old now name to wanted b y → (a ≡ b) × (x ≡ y)
  one_opening name to wanted a b x y first second = (first.opens ∙ sym second.opens, first.written.0 ∙ sym second.written.0)

  -- ---- a poll

  pub one_poll : (a b : NodeValue) (to other : Option Addr) (x y : List ℕ) → Polls old now a to x → Polls old now b other y → (a ≡ b) × (to ≡ other) × (x ≡ y)
  one_poll _ _ _ _ _ _ (polls_name s a x due sends) (polls_name t b y seen also) =
      let is : s ≡ t = same_Some s t (sym due ∙ seen) in
      let same = one_sending t.name poll a b x y (subst (λ (slot : Slot). Sends old now slot.name poll a x) is sends) also in
      (same.0, refl, same.1)
  one_poll _ _ _ _ _ _ (polls_name s a x due sends) (polls_lookup l b y quiet seen looks written) = absurd (not_both s _ quiet due)
  one_poll _ _ _ _ _ _ (polls_name s a x due sends) (polls_nothing b quiet ended passes) = absurd (not_both s _ quiet due)
  one_poll _ _ _ _ _ _ (polls_lookup l a x quiet due looks written) (polls_name t b y seen also) = absurd (not_both t _ quiet seen)
  one_poll _ _ _ _ _ _ (polls_lookup l a x quiet due looks written) (polls_lookup k b y _ seen also wrote) =
      let is : l ≡ k = same_Some l k (sym due ∙ seen) in (
        looks ∙ ap (λ (q : Lookup). let n : NodeValue = record (settled_node old now) { lookup = Some (record q { tries = q.tries + 1; due = next_due now }); next_id = old.next_id } in n) is ∙ sym also,
        ap (λ (q : Lookup). Some q.to) is,
        written.0 ∙ ap (λ (q : Lookup). text (question q)) is ∙ sym wrote.0,
      )
  one_poll _ _ _ _ _ _ (polls_lookup l a x quiet due looks written) (polls_nothing b _ ended passes) = absurd (not_both l _ ended due)
  one_poll _ _ _ _ _ _ (polls_nothing a quiet ended passes) (polls_name t b y seen also) = absurd (not_both t _ quiet seen)
  one_poll _ _ _ _ _ _ (polls_nothing a quiet ended passes) (polls_lookup k b y _ seen also wrote) = absurd (not_both k _ ended seen)
  one_poll _ _ _ _ _ _ (polls_nothing a quiet ended passes) (polls_nothing b _ _ also) = (passes ∙ sym also, refl, refl)

  -- ---- a message

  one_hearing : (from : Addr) (name : NameValue) (message : MessageValue) (a b : NodeValue) (m n : Option MessageValue) (t u : Told) → NodeHears old now from name message a m t → NodeHears old now from name message b n u → (a ≡ b) × (m ≡ n) × (t ≡ u)
  one_hearing from name message _ _ _ _ _ _ (from_server a t is moves) (from_server b u _ also) = one_name_moves name (hear message) a b None None t u moves also
  one_hearing from name message _ _ _ _ _ _ (from_server a t is moves) (from_stranger b not passes) = absurd (let e : true ≡ false = sym is ∙ not in cc)
  one_hearing from name message _ _ _ _ _ _ (from_stranger a not passes) (from_server b u is moves) = absurd (let e : true ≡ false = sym is ∙ not in cc)
  one_hearing from name message _ _ _ _ _ _ (from_stranger a not passes) (from_stranger b _ also) = (passes ∙ sym also, refl, refl)

  one_listing : (id : ℕ) (name : NameValue) (a b : NodeValue) (m n : Option MessageValue) (t u : Told) → Lists old now id name a m t → Lists old now id name b n u → (a ≡ b) × (m ≡ n) × (t ≡ u)
  one_listing id name _ _ _ _ _ _ (lists_names a is passes) (lists_names b _ also) = (passes ∙ sym also, refl, refl)
  one_listing id name _ _ _ _ _ _ (lists_names a is passes) (lists_nothing b not also) = absurd (let e : true ≡ false = sym is ∙ not in cc)
  one_listing id name _ _ _ _ _ _ (lists_nothing a not passes) (lists_names b is also) = absurd (let e : true ≡ false = sym is ∙ not in cc)
  one_listing id name _ _ _ _ _ _ (lists_nothing a not passes) (lists_nothing b _ also) = (passes ∙ sym also, refl, refl)

  one_ending : (from : Addr) (message : MessageValue) (told : Told) (a b : NodeValue) (m n : Option MessageValue) (t u : Told) → Ends old now from message told a m t → Ends old now from message told b n u → (a ≡ b) × (m ≡ n) × (t ≡ u)
  one_ending from message told _ _ _ _ _ _ (is_answered a is looks) (is_answered b _ also) = (looks ∙ sym also, refl, refl)
  one_ending from message told _ _ _ _ _ _ (is_answered a is looks) (is_unanswered b not also) = absurd (let e : true ≡ false = sym is ∙ not in cc)
  one_ending from message told _ _ _ _ _ _ (is_unanswered a not passes) (is_answered b is also) = absurd (let e : true ≡ false = sym is ∙ not in cc)
  one_ending from message told _ _ _ _ _ _ (is_unanswered a not passes) (is_unanswered b _ also) = (passes ∙ sym also, refl, refl)

  one_idling : (a b : NodeValue) (m n : Option MessageValue) (t u : Told) → Idles old now a m t → Idles old now b n u → (a ≡ b) × (m ≡ n) × (t ≡ u)
  one_idling _ _ _ _ _ _ (idles a passes) (idles b also) = (passes ∙ sym also, refl, refl)

  one_taking : (from : Addr) (message : MessageValue) (a b : NodeValue) (m n : Option MessageValue) (t u : Told) → NodeTakes old now from message a m t → NodeTakes old now from message b n u → (a ≡ b) × (m ≡ n) × (t ≡ u)
  one_taking from (status_request id name) a b m n t u x y = one_listing id name a b m n t u x y
  one_taking from (registered rcode r) a b m n t u x y = one_hearing from r.name (registered rcode r) a b m n t u x y
  one_taking from (released id rcode name kind addr) a b m n t u x y = one_hearing from name (released id rcode name kind addr) a b m n t u x y
  one_taking from (found id name ttl entries cut) a b m n t u x y = one_ending from (found id name ttl entries cut) (finds entries cut) a b m n t u x y
  one_taking from (not_found id rcode name) a b m n t u x y = one_ending from (not_found id rcode name) finds_none a b m n t u x y
  one_taking from (status id name names) a b m n t u x y = one_ending from (status id name names) (lists names) a b m n t u x y
  one_taking from (wait id name ttl) a b m n t u x y = one_hearing from name (wait id name ttl) a b m n t u x y
  one_taking from _ a b m n t u x y = one_idling a b m n t u x y

  -- ---- octets, which spell one message at most

  module _ (one_message : (octets : List ℕ) (m n : MessageValue) → Spells octets m → Spells octets n → m ≡ n) where
    one_octets : (from : Addr) (octets : List ℕ) (a b : NodeValue) (m n : Option MessageValue) (t u : Told) → NodeTakesOctets old now from octets a m t → NodeTakesOctets old now from octets b n u → (a ≡ b) × (m ≡ n) × (t ≡ u)
    one_octets from octets _ _ _ _ _ _ (spelled message a m t is takes) (spelled other b n u also takes_too) =
        let same : message ≡ other = one_message octets message other is also in
        one_taking from other a b m n t u (subst (λ (v : MessageValue). NodeTakes old now from v a m t) same takes) takes_too
    one_octets from octets _ _ _ _ _ _ (spelled message a m t is takes) (unspelled b not passes) = absurd (not message is)
    one_octets from octets _ _ _ _ _ _ (unspelled a not passes) (spelled message b n u is takes) = absurd (not message is)
    one_octets from octets _ _ _ _ _ _ (unspelled a not passes) (unspelled b _ also) = (passes ∙ sym also, refl, refl)

    pub one_handling : (from : Addr) (octets : List ℕ) (a b : NodeValue) (t u : Told) (x y : List ℕ) → Handles old now from octets a t x → Handles old now from octets b u y → (a ≡ b) × (t ≡ u) × (x ≡ y)
    one_handling from octets a b t u x y first second =
        let same = one_octets from octets a b first.sent second.sent t u first.takes second.takes in
        (same.0, same.2, one_written second.sent x y (subst (λ (m : Option MessageValue). AreWritten m x) same.1 first.written) second.written)
