-- A node's turn is determined by its moments and by what came.
use Rattle.std.proofs.Common.{◌≡◌, ℕ, ◌≤◌, List, [], ◌∷◌, ◌++◌, Option, Some, None, refl, sym, ap, subst, ◌∙◌, arith}
use Rattle.nbt_name.specs.declared.addr.Addr.{Addr}
use Rattle.nbt_node.specs.Node.{NodeValue}
use Rattle.nbt_node.specs.Moves.{ask, replied}
use Rattle.nbt_node.specs.Calls.{Polls, polls_name, polls_lookup, polls_nothing}
use Rattle.nbt_node.specs.Datagrams.{Handles}
use Rattle.nbt_node.proofs.OneCall.{OneSending, OnePoll, OneHandling}
use Rattle.nbt_client.specs.declared.turning.Seen.{Seen}
use Rattle.nbt_client.specs.declared.turning.Want.{Want}
use Rattle.nbt_port.specs.PortCalls.{PortCall, came, sent, route_to, Chain}
use Rattle.nbt_port.specs.Memory.{DatagramValue, came_in}
use Rattle.nbt_client.specs.Turning.{Asks, asks, may_not_ask, PollsTo, polls_to, EndsPolls, has_nothing, polls_back, seen_of, TurnHears, hears_nothing, hears, replies, hears_back, TakesTurn}

not_both : {X : Type 0} (x : X) (o : Option X) → o ≡ None → o ≡ Some x → ⊥
not_both x o a b = let e : ◌≡◌ None (Some x) = sym a ∙ b in cc

-- ---- the last moment

asked_last : (server : Addr) (now : ℕ) (want : Want) (old new : NodeValue) (acts : List PortCall) → old.last ≤ now → Asks server now want old acts new → new.last ≤ now
asked_last server now want old _ _ le (asks octets new does) = let last : new.last ≡ now = ap (λ (n : NodeValue). n.last) does.sends.moves.node in omega (arith, last)
asked_last server now want old _ _ le (may_not_ask fault may) = le

polled_last : (now : ℕ) (old new : NodeValue) (to : Option Addr) (octets : List ℕ) → Polls old now new to octets → new.last ≡ now
polled_last now old _ _ _ (polls_name slot new octets due sends) = ap (λ (n : NodeValue). n.last) sends.moves.node
polled_last now old _ _ _ (polls_lookup l new octets quiet due looks written) = ap (λ (n : NodeValue). n.last) looks
polled_last now old _ _ _ (polls_nothing new quiet ended passes) = ap (λ (n : NodeValue). n.last) passes

ended_last : (now : ℕ) (old new : NodeValue) → old.last ≤ now → EndsPolls now old new → new.last ≤ now
ended_last now old _ le (has_nothing octets new polls) = omega (arith, polled_last now old new None octets polls)
ended_last now old _ le (polls_back early) = le

-- ---- what a poll that has something is

record IsSent (now : ℕ) (old : NodeValue) (act : PortCall) (new : NodeValue) : Type 0 where
  to : Addr
  octets : List ℕ
  act_is : act ≡ sent (route_to to) octets
  polls : Polls old now new (Some to) octets

is_sent : (now : ℕ) (old : NodeValue) (act : PortCall) (new : NodeValue) → PollsTo now old act new → IsSent now old act new
is_sent now old _ _ (polls_to to octets new polls) = record { to = to; octets = octets; act_is = refl; polls = polls }

chain_last : (now : ℕ) (acts : List PortCall) (old new : NodeValue) → old.last ≤ now → Chain (PollsTo now) old acts new → new.last ≤ now
chain_last now [] old new le same = subst (λ (n : NodeValue). n.last ≤ now) (sym same) le
chain_last now (act ∷ acts) old new le chain =
    let it = is_sent now old act chain.0 chain.1 in
    let last = polled_last now old chain.0 (Some it.to) it.octets it.polls in
    chain_last now acts chain.0 new (omega (arith, last)) chain.2

-- ---- nothing comes by an ask, nor by polls

asks_nothing : (server : Addr) (now : ℕ) (want : Want) (old new : NodeValue) (acts rest : List PortCall) → Asks server now want old acts new → came_in (acts ++ rest) ≡ came_in rest
asks_nothing server now want old _ _ rest (asks octets new does) = refl
asks_nothing server now want old _ _ rest (may_not_ask fault may) = refl

polls_none : (now : ℕ) (acts rest : List PortCall) (old new : NodeValue) → Chain (PollsTo now) old acts new → came_in (acts ++ rest) ≡ came_in rest
polls_none now [] rest old new same = refl
polls_none now (act ∷ acts) rest old new chain =
    let it = is_sent now old act chain.0 chain.1 in
    ap (λ (x : PortCall). came_in (x ∷ (acts ++ rest))) it.act_is ∙ polls_none now acts rest chain.0 new chain.2

same_datagram : (x y : DatagramValue) → x ∷ [] ≡ y ∷ [] → x ≡ y
same_datagram x y e = cc

nothing_else : (x : DatagramValue) → ◌≡◌ {A = List DatagramValue} [] (x ∷ []) → ⊥
nothing_else x e = cc

module _ (one_sending : OneSending) (one_poll : OnePoll) (one_handling : OneHandling) where
  one_asking : (server : Addr) (now : ℕ) (want : Want) (old a b : NodeValue) (acts also : List PortCall) → Asks server now want old acts a → Asks server now want old also b → (acts ≡ also) × (a ≡ b)
  one_asking server now want old _ _ _ _ (asks octets a does) (asks other b does_too) =
      let same = one_sending old a b now want.name (ask want.kind want.ttl) octets other does.sends does_too.sends in
      (ap (λ (xs : List ℕ). sent (route_to server) xs ∷ []) same.1, same.0)
  one_asking server now want old _ _ _ _ (asks octets a does) (may_not_ask fault may) = absurd (not_both fault _ does.may may)
  one_asking server now want old _ _ _ _ (may_not_ask fault may) (asks octets b does) = absurd (not_both fault _ does.may may)
  one_asking server now want old _ _ _ _ (may_not_ask fault may) (may_not_ask other may_too) = (refl, refl)

  -- ---- polls

  one_ending : (now : ℕ) (old a b : NodeValue) → old.last ≤ now → EndsPolls now old a → EndsPolls now old b → a ≡ b
  one_ending now old _ _ le (has_nothing x a polls) (has_nothing y b polls_too) = (one_poll old a b now None None x y polls polls_too).0
  one_ending now old _ _ le (has_nothing x a polls) (polls_back early) = absurd (omega (arith, early, le))
  one_ending now old _ _ le (polls_back early) ends = absurd (omega (arith, early, le))

  no_more : (now : ℕ) (old a k : NodeValue) (act : PortCall) → old.last ≤ now → EndsPolls now old a → PollsTo now old act k → ⊥
  no_more now old _ k act le (has_nothing x a polls) more =
      let it = is_sent now old act k more in
      let same : ◌≡◌ {A = Option Addr} None (Some it.to) = (one_poll old a k now None (Some it.to) x it.octets polls it.polls).1 in cc
  no_more now old _ k act le (polls_back early) more = omega (arith, early, le)

  one_act : (now : ℕ) (old a b : NodeValue) (x y : PortCall) → PollsTo now old x a → PollsTo now old y b → (x ≡ y) × (a ≡ b)
  one_act now old a b x y first second =
      let f = is_sent now old x a first in
      let g = is_sent now old y b second in
      let same = one_poll old a b now (Some f.to) (Some g.to) f.octets g.octets f.polls g.polls in
      let to : f.to ≡ g.to = (let e = same.1 in cc) in
      (f.act_is ∙ (λ i. sent (route_to (to i)) (same.2 i)) ∙ sym g.act_is, same.0)

  one_polling : (now : ℕ) (acts also : List PortCall) (old mid middle a b : NodeValue) → old.last ≤ now → Chain (PollsTo now) old acts mid → EndsPolls now mid a → Chain (PollsTo now) old also middle → EndsPolls now middle b → (acts ≡ also) × (a ≡ b)
  one_polling now [] [] old mid middle a b le first ends second ends_too =
      (refl, one_ending now old a b le (subst (λ (n : NodeValue). EndsPolls now n a) first ends) (subst (λ (n : NodeValue). EndsPolls now n b) second ends_too))
  one_polling now [] (y ∷ ys) old mid middle a b le first ends second ends_too = absurd (no_more now old a second.0 y le (subst (λ (n : NodeValue). EndsPolls now n a) first ends) second.1)
  one_polling now (x ∷ xs) [] old mid middle a b le first ends second ends_too = absurd (no_more now old b first.0 x le (subst (λ (n : NodeValue). EndsPolls now n b) second ends_too) first.1)
  one_polling now (x ∷ xs) (y ∷ ys) old mid middle a b le first ends second ends_too =
      let same = one_act now old first.0 second.0 x y first.1 second.1 in
      let it = is_sent now old x first.0 first.1 in
      let last = polled_last now old first.0 (Some it.to) it.octets it.polls in
      let rest = one_polling now xs ys first.0 mid middle a b (omega (arith, last)) first.2 ends (subst (λ (n : NodeValue). Chain (PollsTo now) n ys middle) (sym same.1) second.2) ends_too in
      ((λ i. same.0 i ∷ rest.0 i), rest.1)

  -- ---- what is heard

  one_hearing : (now : ℕ) (old a b : NodeValue) (acts also : List PortCall) (s t : Seen) → old.last ≤ now → TurnHears now old acts s a → TurnHears now old also t b → came_in acts ≡ came_in also → (acts ≡ also) × (s ≡ t) × (a ≡ b)
  one_hearing now old _ _ _ _ _ _ le hears_nothing hears_nothing e = (refl, refl, refl)
  one_hearing now old _ _ _ _ _ _ le hears_nothing (hears from octets told b not handles) e = absurd (nothing_else _ e)
  one_hearing now old _ _ _ _ _ _ le hears_nothing (replies from octets reply b handles) e = absurd (nothing_else _ e)
  one_hearing now old _ _ _ _ _ _ le hears_nothing (hears_back from octets early) e = absurd (omega (arith, early, le))
  one_hearing now old _ _ _ _ _ _ le (hears from octets told a not handles) hears_nothing e = absurd (nothing_else _ (sym e))
  one_hearing now old _ _ _ _ _ _ le (hears from octets told a not handles) (hears other more told_too b not_too handles_too) e =
      let d : record { route = from; octets = octets } ≡ record { route = other; octets = more } = same_datagram _ _ e in
      let same = one_handling old a b now other.peer more told told_too [] [] (subst (λ (v : DatagramValue). Handles old now v.route.peer v.octets a told []) d handles) handles_too in
      (ap (λ (v : DatagramValue). came v.route v.octets ∷ []) d, ap seen_of same.1, same.0)
  one_hearing now old _ _ _ _ _ _ le (hears from octets told a not handles) (replies other more reply b handles_too) e =
      let d : record { route = from; octets = octets } ≡ record { route = other; octets = more } = same_datagram _ _ e in
      absurd (not (one_handling old a b now other.peer more told replied [] reply (subst (λ (v : DatagramValue). Handles old now v.route.peer v.octets a told []) d handles) handles_too).1)
  one_hearing now old _ _ _ _ _ _ le (hears from octets told a not handles) (hears_back other more early) e = absurd (omega (arith, early, le))
  one_hearing now old _ _ _ _ _ _ le (replies from octets reply a handles) hears_nothing e = absurd (nothing_else _ (sym e))
  one_hearing now old _ _ _ _ _ _ le (replies from octets reply a handles) (hears other more told b not handles_too) e =
      let d : record { route = from; octets = octets } ≡ record { route = other; octets = more } = same_datagram _ _ e in
      absurd (not (sym (one_handling old a b now other.peer more replied told reply [] (subst (λ (v : DatagramValue). Handles old now v.route.peer v.octets a replied reply) d handles) handles_too).1))
  one_hearing now old _ _ _ _ _ _ le (replies from octets reply a handles) (replies other more reply_too b handles_too) e =
      let d : record { route = from; octets = octets } ≡ record { route = other; octets = more } = same_datagram _ _ e in
      let same = one_handling old a b now other.peer more replied replied reply reply_too (subst (λ (v : DatagramValue). Handles old now v.route.peer v.octets a replied reply) d handles) handles_too in
      ((λ i. came (d i).route (d i).octets ∷ sent (d i).route (same.2 i) ∷ []), refl, same.0)
  one_hearing now old _ _ _ _ _ _ le (replies from octets reply a handles) (hears_back other more early) e = absurd (omega (arith, early, le))
  one_hearing now old _ _ _ _ _ _ le (hears_back from octets early) heard e = absurd (omega (arith, early, le))

  -- ---- a turn

  module _ (server : Addr) (want : Want) (old : NodeValue) (first second : ℕ) (le : old.last ≤ first) (later : first ≤ second) where
    -- a turn with its moments named
    record At (acts : List PortCall) (seen : Seen) (new : NodeValue) : Type 0 where
      asking : List PortCall
      polling : List PortCall
      hearing : List PortCall
      asked : NodeValue
      mid : NodeValue
      polled : NodeValue
      asks_at : Asks server first want old asking asked
      chain : Chain (PollsTo first) asked polling mid
      ends : EndsPolls first mid polled
      hears_at : TurnHears second polled hearing seen new
      acts_are : acts ≡ asking ++ (polling ++ hearing)

    at : (acts : List PortCall) (seen : Seen) (new : NodeValue) → TakesTurn server want old acts (first ∷ second ∷ []) seen new → At acts seen new
    at acts seen new turn =
        let moments = turn.moments_are in
        let f : turn.first ≡ first = cc in
        let s : turn.second ≡ second = cc in
        record {
          asking = turn.asking;
          polling = turn.polling;
          hearing = turn.hearing;
          asked = turn.asked;
          mid = turn.polls.mid;
          polled = turn.polled;
          asks_at = subst (λ (k : ℕ). Asks server k want old turn.asking turn.asked) f turn.asks;
          chain = subst (λ (k : ℕ). Chain (PollsTo k) turn.asked turn.polling turn.polls.mid) f turn.polls.polls;
          ends = subst (λ (k : ℕ). EndsPolls k turn.polls.mid turn.polled) f turn.polls.ends;
          hears_at = subst (λ (k : ℕ). TurnHears k turn.polled turn.hearing seen new) s turn.hears;
          acts_are = turn.acts_are;
        }

    heard_alone : (acts : List PortCall) (seen : Seen) (new : NodeValue) (x : At acts seen new) → came_in acts ≡ came_in x.hearing
    heard_alone acts seen new x =
        ap came_in x.acts_are ∙ asks_nothing server first want old x.asked x.asking (x.polling ++ x.hearing) x.asks_at ∙ polls_none first x.polling x.hearing x.asked x.mid x.chain

    one_at : (acts also : List PortCall) (s t : Seen) (a b : NodeValue) → At acts s a → At also t b → came_in acts ≡ came_in also → (acts ≡ also) × (s ≡ t) × (a ≡ b)
    one_at acts also s t a b x y e =
        let asked = one_asking server first want old x.asked y.asked x.asking y.asking x.asks_at y.asks_at in
        let young : x.asked.last ≤ first = asked_last server first want old x.asked x.asking le x.asks_at in
        let polled = one_polling first x.polling y.polling x.asked x.mid y.mid x.polled y.polled young x.chain x.ends (subst (λ (n : NodeValue). Chain (PollsTo first) n y.polling y.mid) (sym asked.1) y.chain) y.ends in
        let last : x.polled.last ≤ first = ended_last first x.mid x.polled (chain_last first x.polling x.asked x.mid young x.chain) x.ends in
        let heard = one_hearing second x.polled a b x.hearing y.hearing s t (omega (arith, last, later)) x.hears_at (subst (λ (n : NodeValue). TurnHears second n y.hearing t b) (sym polled.1) y.hears_at)
        (sym (heard_alone acts s a x) ∙ e ∙ heard_alone also t b y)
        in (x.acts_are ∙ (λ i. asked.0 i ++ (polled.0 i ++ heard.0 i)) ∙ sym y.acts_are, heard.1, heard.2)

    pub one_turn : (acts also : List PortCall) (s t : Seen) (a b : NodeValue) → TakesTurn server want old acts (first ∷ second ∷ []) s a → TakesTurn server want old also (first ∷ second ∷ []) t b → came_in acts ≡ came_in also → (acts ≡ also) × (s ≡ t) × (a ≡ b)
    one_turn acts also s t a b x y e = one_at acts also s t a b (at acts s a x) (at also t b y) e
