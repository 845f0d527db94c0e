-- What a node does for the users of a name, it does as the name's holder.
use Rattle.std.proofs.Common.{◌≡◌, ℕ, ◌<◌, List, [], ◌∷◌, Option, Some, None, inl, inr, refl, sym, ap, ◌∙◌, arith}
use Rattle.nbt_name.specs.declared.addr.Addr.{Addr}
use Rattle.nbt_name.specs.declared.addr.Kind.{Kind}
use Rattle.nbt_name.specs.Wire.{NameValue}
use Rattle.nbt_node.specs.Node.{NodeValue, holds}
use Rattle.nbt_dgram.specs.declared.dgram.Names.{Names}
use Rattle.nbt_dgram.specs.declared.msg_type.Delivery.{Delivery}
use Rattle.nbt_dgram.specs.Dgram.{DgramValue}
use Rattle.nbt_dgram.specs.Joiner.{JoinedValue, JoinerValue}
use Rattle.nbt_dgram.specs.Accepting.{Accepts, is_put, Hands, handed_up, up}
use Rattle.nbt_session.specs.declared.listener.Entry.{Entry}
use Rattle.nbt_session.specs.declared.listener.Slot.{Slot}
use Rattle.nbt_session.specs.declared.listener.Slot.TheVariants.{Fresh, Open}
use Rattle.nbt_session.specs.Event.{EventValue, packet}
use Rattle.nbt_session.specs.Listener.{ListenerValue, ListenerAnswerValue, send, open_count, FirstThatTakes, is_taken, is_called, ListenerMoves, LetsIn, here}
use Rattle.nbt_session.specs.Packet.{request, positive}
use Rattle.nbt_world.specs.Drift.{reading}
use Rattle.nbt_world.specs.World.{WorldValue, node_of}
use Rattle.nbt_world.specs.Safety.{held_by, holding, IsSafe}
use Rattle.nbt_world.proofs.Safe.{holder_up}
use Rattle.nbt_world.specs.Users.{LetsCallIn, HandsUp, ServesUsers, ServeUsersAsGroup}

by_hands : (node : NodeValue) (now : ℕ) (own : Addr) (d : DgramValue) (delivery : Delivery) (joined : JoinedValue) (names : Names) (payload sent : List ℕ) → Hands node now own d delivery joined (up names payload) sent
    → (kind : Kind) × (holds node names.destination now ≡ Some kind)
by_hands _ _ _ _ _ _ _ _ _ (handed_up names payload kind held) = (kind, held)

by_octets : (before after : JoinerValue) (now : ℕ) (node : NodeValue) (own : Addr) (octets : List ℕ) (names : Names) (payload sent : List ℕ) → Accepts before now node own octets (up names payload) sent after
    → (kind : Kind) × (holds node names.destination now ≡ Some kind)
by_octets before after now node own octets names payload sent (is_put d n f joined _ _ _ is body some puts hands) = by_hands node now own d f.delivery joined names payload sent hands

holder : (world : WorldValue) (number : ℕ) (name : NameValue) (node : NodeValue) (kind : Kind) → node_of world.ends number ≡ Some node → holds node name (reading world.now number) ≡ Some kind → holding world number name ≡ Some kind
holder world number name node kind is_up held = ap (λ (o : Option NodeValue). held_by o name (reading world.now number)) is_up ∙ held

-- what the law on calls says
abbrev CallsGoToHeldNames : Type 0
CallsGoToHeldNames = (holds : NameValue → Option Kind) (before after : ListenerValue) (slot : ℕ) (event : EventValue) (answer : ListenerAnswerValue) → ListenerMoves holds before slot event after answer → LetsIn answer
    → (called calling : NameValue) × (kind : Kind) × (event ≡ packet (request called calling)) × (holds called ≡ Some kind)

module _ (calls : CallsGoToHeldNames) where
  by_call : (world : WorldValue) (number : ℕ) (name : NameValue) → LetsCallIn world number name → (kind : Kind) × (holding world number name ≡ Some kind)
  by_call world number name x =
      let now = reading world.now number in
      let found = calls (λ called. holds x.node called now) x.before x.after x.connection (packet (request name x.calling)) x.answer x.moves x.lets_in in
      let named : found.0 ≡ name = cc found.3 in
      (found.2, holder world number name x.node found.2 x.is_up (ap (λ (called : NameValue). holds x.node called now) (sym named) ∙ found.4))

  by_datagram : (world : WorldValue) (number : ℕ) (name : NameValue) → HandsUp world number name → (kind : Kind) × (holding world number name ≡ Some kind)
  by_datagram world number name x =
      let now = reading world.now number in
      let found = by_octets x.before x.after now x.node x.own x.octets x.names x.payload x.sent x.accepts in
      (found.0, holder world number name x.node found.0 x.is_up (ap (λ (called : NameValue). holds x.node called now) (sym x.for_name) ∙ found.1))

  pub holds_served : (world : WorldValue) (number : ℕ) (name : NameValue) → ServesUsers world number name → (kind : Kind) × (holding world number name ≡ Some kind)
  holds_served world number name (inl x) = by_call world number name x
  holds_served world number name (inr x) = by_datagram world number name x

  pub served_as_group : (world : WorldValue) → IsSafe world → ServeUsersAsGroup world
  served_as_group world safe name i j apart a b =
      let one = holds_served world i name a in
      let other = holds_served world j name b in
      let group = safe name i j one.0 other.0 apart one.1 other.1 in
      (one.1 ∙ ap (λ (k : Kind). Some k) group.0, other.1 ∙ ap (λ (k : Kind). Some k) group.1)

-- ---- a node that holds a name lets a call in, at a listener with an entry for it

abbrev for_anybody : NameValue → Entry
for_anybody name = record { called = name; calling = None; retarget = None }

abbrev listening : NameValue → Slot → ListenerValue
listening name slot = record { entries = for_anybody name ∷ []; slots = slot ∷ []; most = 1 }

pub call_let_in : (world : WorldValue) (number : ℕ) (name : NameValue) (kind : Kind) → holding world number name ≡ Some kind → LetsCallIn world number name
call_let_in world number name kind held =
    let node = holder_up world number name kind held in
    let holds_it : holds node.0 name (reading world.now number) ≡ Some kind = ap (λ (o : Option NodeValue). held_by o name (reading world.now number)) (sym node.1) ∙ held in
    let none_open : open_count (Fresh ∷ []) ≡ 0 = refl in
    let room : open_count (Fresh ∷ []) < 1 = omega (arith, none_open) in
    let first : FirstThatTakes (for_anybody name ∷ []) name name (for_anybody name) = record {
      place = 0;
      stands = refl;
      takes = (refl, tt);
      before = λ k d low high. absurd (omega (arith, high));
    } in
    record {
      node = node.0;
      is_up = node.1;
      before = listening name Fresh;
      after = listening name Open;
      connection = 0;
      calling = name;
      answer = send positive;
      moves = record {
        before = Fresh;
        after = Open;
        was = refl;
        moves = is_called name name Open (send positive) (is_taken kind (for_anybody name) holds_it first room refl);
        others = refl;
      };
      lets_in = here;
    }
