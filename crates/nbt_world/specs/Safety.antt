-- What the headline says: who holds a name in a world, when a world is safe, what a run is, and when its clocks keep the
-- drift bound.
use Rattle.std.specs.Prelude.{◌≡◌, ◌≢◌, ℕ, ◌≤◌, ◌↔◌, IsTrue, List, [], ◌∷◌, slice_get, Option, Some, None, All}
use Rattle.nbt_name.specs.declared.addr.Addr.{Addr}
use Rattle.nbt_name.specs.declared.addr.Kind.{Kind}
use Rattle.nbt_name.specs.declared.addr.Kind.TheVariants.{Group}
use Rattle.nbt_name.specs.Wire.{NameValue}
use Rattle.nbt_lease.specs.Config.{ConfigValue}
use Rattle.nbt_node.specs.Node.{NodeValue, holds}
use Rattle.nbt_world.specs.declared.event.Event.{Event}
use Rattle.nbt_world.specs.declared.event.Outcome.{Outcome}
use Rattle.nbt_world.specs.Drift.{reading, IsBounded, IsTimely}
use Rattle.nbt_world.specs.World.{WorldValue, IsEnd, node_of, IsFresh}
use Rattle.nbt_world.specs.Step.{Step}

-- a node that is down holds nothing
abbrev pub held_by : Option NodeValue → NameValue → (now : ℕ) → Option Kind
held_by None name now = None
held_by (Some node) name now = holds node name now

-- as which kind the node of this number holds the name, at the world's moment, which the node judges by its own reading
abbrev pub holding : WorldValue → (number : ℕ) → NameValue → Option Kind
holding world number name = held_by (node_of world.ends number) name (reading world.now number)

-- These two, if they are different, don't both hold the name, unless both as a group.
abbrev pub MayHold : WorldValue → (i j : ℕ) → NameValue → Type 0
MayHold world i j name = (k l : Kind) → i ≢ j → holding world i name ≡ Some k → holding world j name ≡ Some l → (k ≡ Group) × (l ≡ Group)

-- No two nodes hold one name, unless both as a group.
abbrev pub IsSafe : WorldValue → Type 0
IsSafe world = (name : NameValue) (i j : ℕ) → MayHold world i j name

-- each of them up to which the readings kept the drift bound is
abbrev pub AreSafeWhileKept : List WorldValue → Type 0
AreSafeWhileKept worlds = All (λ world. IsTrue world.kept → IsSafe world) worlds

-- each of them up to which the readings were timely is
abbrev pub AreSafeWhileTimely : List WorldValue → Type 0
AreSafeWhileTimely worlds = All (λ world. IsTrue world.timely → IsSafe world) worlds

-- These events, in order, lead from a world through these worlds: the first is that world itself, and the last is
-- where they end.
pub data Run : List Event → WorldValue → List WorldValue → WorldValue → Type 0 where
  ends : (world : WorldValue) → Run [] world (world ∷ []) world
  goes_on : (world next last : WorldValue) (event : Event) (outcome : Outcome) (events : List Event) (worlds : List WorldValue)
      → Step world event outcome next → Run events next worlds last → Run (event ∷ events) world (world ∷ worlds) last

-- Between any two of these worlds, the earlier first, each end's reading kept the drift bound.
abbrev pub KeepDriftBound : List WorldValue → Type 0
KeepDriftBound worlds = (i j : ℕ) (early late : WorldValue) → i ≤ j → slice_get worlds i ≡ Some early → slice_get worlds j ≡ Some late → (number : ℕ) → IsEnd late.ends number → IsBounded early.now late.now number

-- Between any two of them each end's clock was timely: none was too fast, and no node's too slow.
abbrev pub AreTimely : List WorldValue → Type 0
AreTimely worlds = (i j : ℕ) (early late : WorldValue) → i ≤ j → slice_get worlds i ≡ Some early → slice_get worlds j ≡ Some late → (number : ℕ) → IsEnd late.ends number → IsTimely early.now late.now number

-- What is promised of the worlds along a run: each up to which the readings were timely is safe, and so is each up to which they
-- kept the bound. From a new world, `kept` says exactly whether they kept it, and `timely` whether they were timely.
pub record RunsSafely (old : WorldValue) (worlds : List WorldValue) (new : WorldValue) : Type 0 where
  pub safe_timely : AreSafeWhileTimely worlds
  pub safe : AreSafeWhileKept worlds
  pub told : (config : ConfigValue) (addrs : List Addr) → IsFresh config addrs old → IsTrue new.kept ↔ KeepDriftBound worlds
  pub told_timely : (config : ConfigValue) (addrs : List Addr) → IsFresh config addrs old → IsTrue new.timely ↔ AreTimely worlds
