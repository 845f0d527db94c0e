-- An end takes a datagram, and its reply goes back: what the delivery of a datagram of the list and the coming of a
-- stranger's share.
use Rattle.std.specs.Prelude.{◌≡◌, ℕ, List, Contains}
use Rattle.nbt_name.specs.declared.addr.Addr.{Addr}
use Rattle.nbt_world.specs.declared.ends.Ends.{Ends}
use Rattle.nbt_world.specs.declared.event.Outcome.{Outcome}
use Rattle.nbt_world.specs.declared.network.Datagram.{Datagram}
use Rattle.nbt_world.specs.Drift.{reading}
use Rattle.nbt_world.specs.World.{WorldValue, IsDeliverable, IsOfEnd}
use Rattle.nbt_world.specs.Step.{TakenValue, SpellMove, EndTakes, after_taking, outcome_of_taking}

-- where a datagram comes from: it is one of the list that may still be delivered, a stranger's, or one that moves no name
pub data Origin (w : WorldValue) (from to : Addr) (octets : List ℕ) : Type 0 where
  listed : (d : Datagram) → Contains w.sent d → d.from ≡ from → d.to ≡ to → d.octets.items ≡ octets → IsDeliverable w.config.life w.now.clock d.moment.clock → Origin w from to octets
  strange : (IsOfEnd w.ends from.ip → ⊥) → Origin w from to octets
  harmless : (SpellMove octets → ⊥) → Origin w from to octets

-- The end of this number, at the address `to`, takes octets from an address: what comes of it, and the world afterwards.
pub record HandsOver (old : WorldValue) (number : ℕ) (from to : Addr) (octets : List ℕ) (outcome : Outcome) (new : WorldValue) : Type 0 where
  pub taken : TakenValue
  pub ends : Ends
  pub takes : EndTakes (reading old.now number) old.ends from octets number taken ends
  pub outcome_is : outcome ≡ outcome_of_taking old taken
  pub new_is : new ≡ after_taking old ends to from taken
