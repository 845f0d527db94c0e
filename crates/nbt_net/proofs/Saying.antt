-- What a host says to who sent it a datagram: the world has it of its node, or it moves no name.
use Rattle.std.proofs.Common.{◌≡◌, ◌≢◌, ℕ, ◌/◌, ◌%◌, ◌<◌, length, List, [], ◌∷◌, Option, Some, None, refl, sym, ap, subst, ◌∙◌, arith, inl, inr}
use Rattle.nbt_name.specs.declared.addr.Addr.{Addr}
use Rattle.nbt_name.specs.declared.addr.Kind.{Kind}
use Rattle.nbt_name.specs.Wire.{NameValue}
use Rattle.nbt_name.specs.Words.{word_at}
use Rattle.nbt_packet.specs.Message.{MessageValue, registration, overwrite, refresh, release, query, registered}
use Rattle.nbt_packet.specs.Spelling.{AreWritten}
use Rattle.nbt_packet.specs.Text.{text}
use Rattle.nbt_node.specs.Node.{NodeValue, holds}
use Rattle.nbt_node.specs.Moves.{Told, nothing, replied, is_granted, is_renewed, is_refused, is_lost, is_freed, waits, finds, finds_none, lists}
use Rattle.nbt_node.specs.Answering.{answer, answer_if, own_reply, sent_back}
use Rattle.nbt_port.specs.declared.port.Route.{Route}
use Rattle.nbt_host.specs.Hosting.{sending_to}
use Rattle.nbt_world.specs.declared.clocks.Clocks.{Clocks}
use Rattle.nbt_world.specs.declared.network.Datagram.{Datagram}
use Rattle.nbt_world.specs.World.{datagram}
use Rattle.nbt_world.specs.Step.{SpellMove}
use Rattle.nbt_net.specs.Wire.{sent_by}
use Rattle.nbt_net.specs.Reaching.{AreSentOrMoveNone}
use Rattle.nbt_net.proofs.Ends.{none_sent, one_sent, same_sent}

-- what a node itself replies
abbrev pub reply_to : (at from : Addr) → Clocks → Option MessageValue → List Datagram
reply_to at from moment None = []
reply_to at from moment (Some message) = datagram at from moment (text message) ∷ []

-- ---- an answer's flags

flags_are : (node : NodeValue) (id : ℕ) (name : NameValue) (kind : Kind) → word_at (answer node id name kind) 2 ≡ 0x8500
flags_are node id name kind = refl

no_request : {n : ℕ} → n ≡ 0x8500 → n < 0x8000 → ⊥
no_request {n} is below = omega (arith, is, below)

no_opcode : {n k : ℕ} → n ≡ 0x8500 → n / 0x800 % 16 ≡ k → k ≢ 0 → ⊥
no_opcode {n} {k} is opcode ne = ne (sym opcode ∙ ap (λ (m : ℕ). m / 0x800 % 16) is)

moves_none : (octets : List ℕ) → word_at octets 2 ≡ 0x8500 → SpellMove octets → ⊥
moves_none octets is (registration r, s, moves) = no_request (s.packet_is.flags ∙ is) s.message_is.0.request
moves_none octets is (overwrite r, s, moves) = no_request (s.packet_is.flags ∙ is) s.message_is.0.request
moves_none octets is (refresh r, s, moves) = elim s.message_is.0 [ inl requests ↦ no_request (s.packet_is.flags ∙ is) requests.request | inr requests ↦ no_request (s.packet_is.flags ∙ is) requests.request ]
moves_none octets is (release id name kind addr, s, moves) = no_request (s.packet_is.flags ∙ is) s.message_is.0.request
moves_none octets is (registered rcode r, s, moves) = elim s.message_is.0 [
  | inl responds ↦ no_opcode (s.packet_is.flags ∙ is) responds.opcode_is (λ e. absurd cc)
  | inr more ↦ elim more [ inl responds ↦ no_opcode (s.packet_is.flags ∙ is) responds.opcode_is (λ e. absurd cc) | inr responds ↦ no_opcode (s.packet_is.flags ∙ is) responds.opcode_is (λ e. absurd cc) ]
]
moves_none octets is (message, s, moves) = absurd moves

answers_move_none : (node : NodeValue) (id : ℕ) (name : NameValue) (kind : Kind) → SpellMove (answer node id name kind) → ⊥
answers_move_none node id name kind moves = moves_none (answer node id name kind) (flags_are node id name kind) moves

-- no octets are no message
nothing_moves : (octets : List ℕ) → octets ≡ [] → SpellMove octets → ⊥
nothing_moves octets is moves =
    let long = moves.1.packet_is.header.0 in
    let short : length octets ≡ 0 = ap (λ (xs : List ℕ). length xs) is in
    omega (arith, long, short)

-- ---- what is sent back

module _ (at : Addr) (from : Route) (moment : Clocks) (reply : List ℕ) (own : Option MessageValue) (written : AreWritten own reply) where
  own_sent : (sent : Option MessageValue) → AreWritten sent reply → AreSentOrMoveNone (datagram at from.peer moment reply ∷ []) (reply_to at from.peer moment sent)
  own_sent None is = λ d c. inr (one_sent (λ x. ¬ SpellMove x.octets.items) (datagram at from.peer moment reply) (nothing_moves reply is) d c)
  own_sent (Some message) is =
      subst (λ (xs : List ℕ). AreSentOrMoveNone (datagram at from.peer moment xs ∷ []) (reply_to at from.peer moment (Some message))) (sym is.0) (same_sent (datagram at from.peer moment (text message) ∷ []))

  -- what is sent, if anything, is of these
  abbrev IsOf : Option (List ℕ) → Type 0
  IsOf said = AreSentOrMoveNone (sent_by at moment (sending_to from said)) (reply_to at from.peer moment own)

  told_back : (told : Told) → IsOf (own_reply told reply)
  told_back replied = own_sent own written
  told_back nothing = none_sent _
  told_back (is_granted seconds) = none_sent _
  told_back (is_renewed seconds) = none_sent _
  told_back (is_refused rcode) = none_sent _
  told_back is_lost = none_sent _
  told_back (is_freed rcode) = none_sent _
  told_back waits = none_sent _
  told_back (finds entries cut) = none_sent _
  told_back finds_none = none_sent _
  told_back (lists names) = none_sent _

  answered : (node : NodeValue) (id : ℕ) (name : NameValue) (kind : Option Kind) → IsOf (answer_if node id name kind)
  answered node id name None = none_sent _
  answered node id name (Some kind) = λ d c. inr (one_sent (λ x. ¬ SpellMove x.octets.items) (datagram at from.peer moment (answer node id name kind)) (answers_move_none node id name kind) d c)

  pub said_back : (node : NodeValue) (now : ℕ) (message : Option MessageValue) (told : Told) → IsOf (sent_back node now message told reply)
  said_back node now None told = told_back told
  said_back node now (Some (query id name)) told = answered node id name (holds node name now)
  said_back node now (Some message) told = told_back told
