-- A world that keeps its facts is safe where the readings kept the drift bound: what a node holds it claims, and claims stand beside one another only as a group's.
use Rattle.std.proofs.Common.{◌≡◌, ℕ, ◌<◌, Bool, true, false, cond, ltb, Option, Some, None, refl}
use Rattle.std.proofs.lemmas.Bool.{ltb-true}
use Rattle.std.proofs.lemmas.Option.{none-some, same_Some}
use Rattle.nbt_name.specs.declared.addr.Kind.{Kind}
use Rattle.nbt_name.specs.Wire.{NameValue}
use Rattle.nbt_node.specs.declared.state.State.{State}
use Rattle.nbt_node.specs.declared.state.State.TheVariants.{Idle, Asking, Held, Releasing, Resting}
use Rattle.nbt_node.specs.Node.{NodeValue, state_of, held_at}
use Rattle.std.specs.Prelude.{IsTrue}
use Rattle.nbt_world.specs.Drift.{reading}
use Rattle.nbt_world.specs.World.{WorldValue, node_of}
use Rattle.nbt_world.specs.Safety.{held_by, holding, IsSafe}
use Rattle.nbt_world.specs.Inner.Kept.{HoldsIn, known, has, Holds, Invariant}
use Rattle.nbt_world.proofs.Keeping.{addr_there}

-- what a state holds at a moment, it holds until later
held_in : (now : ℕ) (s : State) (kind : Kind) → held_at now s ≡ Some kind → (end : ℕ) × HoldsIn s kind end × (now < end)
held_in now Idle kind e = absurd (none-some kind e)
held_in now (Asking k ttl last p) kind e = absurd (none-some kind e)
held_in now (Held k ttl until renew last pending) kind e = go (ltb now until) refl e
  where
    go : (t : Bool) → ltb now until ≡ t → cond t (Some k) None ≡ Some kind → (end : ℕ) × HoldsIn (Held k ttl until renew last pending) kind end × (now < end)
    go true p e = (until, (same_Some k kind e, refl), ltb-true now until p)
    go false p e = absurd (none-some kind e)
held_in now (Releasing k last p) kind e = absurd (none-some kind e)
held_in now (Resting last) kind e = absurd (none-some kind e)

held_claim : (now : ℕ) (node : Option NodeValue) (name : NameValue) (kind : Kind) → held_by node name now ≡ Some kind → (end : ℕ) × Holds (known node name) kind end × (now < end)
held_claim now None name kind e = absurd (none-some kind e)
held_claim now (Some node) name kind e = go (ltb now node.last) e
  where
    go : (t : Bool) → cond t None (held_at now (state_of node name)) ≡ Some kind → (end : ℕ) × Holds (known (Some node) name) kind end × (now < end)
    go true e = absurd (none-some kind e)
    go false e = held_in now (state_of node name) kind e

pub holder_up : (w : WorldValue) (i : ℕ) (name : NameValue) (kind : Kind) → holding w i name ≡ Some kind → (node : NodeValue) × (node_of w.ends i ≡ Some node)
holder_up w i name kind e = go (node_of w.ends i) refl e
  where
    go : (o : Option NodeValue) → node_of w.ends i ≡ o → held_by o name (reading w.now i) ≡ Some kind → (node : NodeValue) × (node_of w.ends i ≡ Some node)
    go None p e = absurd (none-some kind e)
    go (Some node) p e = (node, p)

pub is_safe : (w : WorldValue) → Invariant w → IsTrue w.timely → IsSafe w
is_safe w kept on name i j k l ne p q =
    let a = holder_up w i name k p in
    let b = holder_up w j name l q in
    let x = addr_there w.ends i a.0 a.1 in
    let y = addr_there w.ends j b.0 b.1 in
    let c = held_claim (reading w.now i) (node_of w.ends i) name k p in
    let d = held_claim (reading w.now j) (node_of w.ends j) name l q in
    (kept.claims on).beside i j x.0 y.0 name k l c.0 d.0 ne x.1 y.1 (has k c.0 c.1) c.2 (has l d.0 d.1) d.2
