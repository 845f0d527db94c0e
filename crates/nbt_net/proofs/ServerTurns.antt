-- A server's turns are acts of its life, also where a crash cuts it short.
use Rattle.std.proofs.Common.{◌≡◌, ℕ, List, [], ◌∷◌, ◌++◌, map, Some, None, refl, sym, ap, subst, inl, inr, arith}
use Rattle.std.specs.Prelude.{Contains}
use Rattle.std.specs.List.{flat_map}
use Rattle.std.proofs.lemmas.Grind.{flat_map-append}
use Rattle.std.proofs.lemmas.List.Elements.{Contains-append_cases, Contains-append_left, Contains-append_right, Contains-push_cases}
use Rattle.nbt_lease.specs.Config.{ConfigValue}
use Rattle.nbt_packet.specs.Text.{text}
use Rattle.nbt_port.specs.declared.port.Route.{Route}
use Rattle.nbt_port.specs.Memory.{DatagramValue}
use Rattle.nbt_port.specs.PortCalls.{PortCall, came, sent, Chain}
use Rattle.nbt_port.proofs.Chains.{chain_on, chain-append}
use Rattle.nbt_server.specs.Serving.{ServerValue}
use Rattle.nbt_store.specs.declared.change.Change.{Change}
use Rattle.nbt_serve.specs.Serving.{Turn, is_empty, is_taken, is_lost, Turns, passes, takes, goes_back, has_no_memory}
use Rattle.nbt_serve.specs.Turning.{reply_in}
use Rattle.nbt_serve.specs.Waiting.{ReplyValue}
use Rattle.nbt_serve.specs.Runs.{AreAmong, CrashLeavesAnEarlierServer, IsEarlier, TakesOne, here, there, replies_in}
use Rattle.nbt_net.specs.Wire.{Act}
use Rattle.nbt_net.specs.Servers.{up, down, act_at, ServerLives, takes_turn, crashes}
use Rattle.nbt_net.specs.Turns.{calls_in, act_of, acts_of_turns, acts_before, ServerTurnsAreLived, IsCutShort, CrashCutsALifeShort}
use Rattle.nbt_net.proofs.Ends.{nothing_at}

-- ---- turns

module _ (config : ConfigValue) where
  pub one_lived : {old new : ServerValue} {turn : Turn} → Turns old turn new → Chain (ServerLives config) (up old) (act_of turn) (up new)
  one_lived passes = refl
  one_lived {old} {new} (takes now from octets reply _ does) = (up new, takes_turn now (is_taken now from octets reply) old new (refl, tt) (takes now from octets reply new does), refl)
  one_lived {old} (goes_back now from octets early) = (up old, takes_turn now (is_lost now from octets) old old (refl, tt) (goes_back now from octets early), refl)
  one_lived {old} {new} (has_no_memory now from octets _ forgets) = (up new, takes_turn now (is_lost now from octets) old new (refl, tt) (has_no_memory now from octets new forgets), refl)

  pub all_lived : (turns : List Turn) (old new : ServerValue) → Chain Turns old turns new → Chain (ServerLives config) (up old) (acts_of_turns turns) (up new)
  all_lived [] old new chain = ap up chain
  all_lived (turn ∷ turns) old new chain = chain-append (ServerLives config) (up old) (up chain.0) (up new) (act_of turn) (acts_of_turns turns) (one_lived chain.1) (all_lived turns chain.0 new chain.2)

pub server_turns_are_lived : ServerTurnsAreLived
server_turns_are_lived config old new turns chain = all_lived config turns old new chain

-- ---- each reply of a turn is sent in its act

abbrev Sends : List Act → DatagramValue → Type 0
Sends acts reply = Contains (calls_in acts) (sent reply.route reply.octets)

sent_there : (from : Route) (octets back : List ℕ) → Contains (came from octets ∷ sent from back ∷ []) (sent from back)
sent_there from octets back = Contains-append_right (came from octets ∷ []) (sent from back ∷ []) (sent from back) (Contains-append_right [] (sent from back ∷ []) (sent from back) (one_there (sent from back)))
  where
    one_there : (call : PortCall) → Contains (call ∷ []) call
    one_there call = (0, omega arith, refl)

turn_sends : (turn : Turn) (reply : DatagramValue) → Contains (map (λ (r : ReplyValue). r.datagram) (reply_in turn)) reply → Sends (act_of turn) reply
turn_sends is_empty reply c = absurd (nothing_at reply c)
turn_sends (is_taken now from octets None) reply c = absurd (nothing_at reply c)
turn_sends (is_taken now from octets (Some message)) reply c = elim (Contains-push_cases [] (record { route = from; octets = text message }) reply c) [
  | inl none ↦ absurd (nothing_at reply none)
  | inr same ↦ subst (λ (r : DatagramValue). Contains (calls_in (act_of (is_taken now from octets (Some message)))) (sent r.route r.octets)) same (sent_there from octets (text message))
]
turn_sends (is_lost now from octets) reply c = absurd (nothing_at reply c)

map-append : (xs ys : List ReplyValue) → map (λ (r : ReplyValue). r.datagram) (xs ++ ys) ≡ map (λ (r : ReplyValue). r.datagram) xs ++ map (λ (r : ReplyValue). r.datagram) ys
map-append [] ys = refl
map-append (x ∷ xs) ys = ap (λ (rest : List DatagramValue). x.datagram ∷ rest) (map-append xs ys)

pub turns_send : (turns : List Turn) (reply : DatagramValue) → Contains (replies_in turns) reply → Sends (acts_of_turns turns) reply
turns_send [] reply c = absurd (nothing_at reply c)
turns_send (turn ∷ turns) reply c =
    subst (λ (calls : List PortCall). Contains calls (sent reply.route reply.octets)) (sym (flat_map-append (λ (act : Act). act.calls) (act_of turn) (acts_of_turns turns)))
    (elim (Contains-append_cases _ (replies_in turns) reply (subst (λ (all : List DatagramValue). Contains all reply) (map-append (reply_in turn) (flat_map reply_in turns)) c)) [
      | inl first ↦ Contains-append_left (calls_in (act_of turn)) (calls_in (acts_of_turns turns)) _ (turn_sends turn reply first)
      | inr then ↦ Contains-append_right (calls_in (act_of turn)) (calls_in (acts_of_turns turns)) _ (turns_send turns reply then)
    ])

-- ---- what is among others

module _ {A : Type 0} where
  first_there : (x : A) (ys : List A) → Contains (x ∷ ys) x
  first_there x ys = (0, omega arith, refl)

  rest_there : (y : A) (ys : List A) (x : A) → Contains ys x → Contains (y ∷ ys) x
  rest_there y ys x c = Contains-append_right (y ∷ []) ys x c

  taken_there : {x : A} {ys zs : List A} → TakesOne x ys zs → Contains ys x
  taken_there {x} (here ys) = first_there x ys
  taken_there {x} (there y ys zs rest) = rest_there y ys x (taken_there rest)

  left_there : {x : A} {ys zs : List A} → TakesOne x ys zs → (z : A) → Contains zs z → Contains ys z
  left_there {x} (here ys) z c = rest_there x ys z c
  left_there (there y ys zs rest) z c = elim (Contains-append_cases (y ∷ []) zs z c) [ inl first ↦ Contains-append_left (y ∷ []) ys z first | inr then ↦ rest_there y ys z (left_there rest z then) ]

  pub all_there : (xs ys : List A) → AreAmong xs ys → (x : A) → Contains xs x → Contains ys x
  all_there [] ys among x c = absurd (nothing_at x c)
  all_there (z ∷ xs) ys among x c = elim (Contains-append_cases (z ∷ []) xs x c) [
    | inl first ↦ elim (Contains-push_cases [] z x first) [ inl none ↦ absurd (nothing_at x none) | inr same ↦ subst (Contains ys) same (taken_there among.1) ]
    | inr then ↦ left_there among.1 x (all_there xs among.0 among.2 x then)
  ]

-- ---- a crash

abbrev pub cut_by : (config : ConfigValue) (first : ServerValue) {turns : List Turn} {gone : List DatagramValue} {last : ℕ} {left : List Change} → IsEarlier first turns gone last left → IsCutShort config first turns gone last left
cut_by config first e = record {
  earlier = e;
  lives = λ now. chain_on (ServerLives config) (up first) (up e.server) (down e.server) (acts_before e) (act_at now) (all_lived config (e.front ++ e.asked) first e.server e.run) (crashes now e.server);
  replies = λ reply c. turns_send (e.front ++ e.asked) reply (all_there _ (replies_in (e.front ++ e.asked)) e.replies reply c);
}

pub crash_cuts : CrashLeavesAnEarlierServer → CrashCutsALifeShort
crash_cuts law config kept last old new seen begins runs before behind left calls_are may = cut_by config old.server (law kept last old new seen begins runs before behind left calls_are may)
