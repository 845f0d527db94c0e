-- What becomes of a front after a turn of a server that stays up.
use Rattle.std.proofs.Common.{◌≡◌, ℕ, List, Option}
use Rattle.nbt_port.specs.PortCalls.{PortCall}
use Rattle.nbt_port.specs.Staying.{Takes}
use Rattle.nbt_port.specs.declared.staying.Turned.{Turned}
use Rattle.nbt_port.specs.declared.staying.Turned.TheVariants as t
use Rattle.nbt_lease.specs.Lease.{Rows}
use Rattle.nbt_store.specs.Calls.{StoreCall}
use Rattle.nbt_front.specs.Deciding.{FrontValue}
use Rattle.nbt_nbns.specs.Inner.Renewing.{Parts, RenewsParts, keeps_front, puts_front, puts_none}
use Rattle.nbt_nbns.specs.Renewing.{RenewsFront, RenewsOn, stays, puts, can_not}
use Rattle.nbt_nbns.specs.Staying.{Staying, WatchesOn, WatchesLast, BreaksStaying, CutsStaying}
use Rattle.nbt_nbns.specs.Teller.{Sight}
use Rattle.nbt_serve.specs.declared.fault.KeepFault.TheVariants as fault

-- the parts of a server that may change, and the server with such parts
abbrev pub parts_of : {P S C D V : Type 0} → Staying P S C D V → Parts P C V
parts_of here = record { port = here.served.port; clock = here.served.clock; watcher = here.watcher }

abbrev pub with_parts : {P S C D V : Type 0} → Staying P S C D V → Parts P C V → Staying P S C D V
with_parts here new = record here { served = record here.served { port = new.port; clock = new.clock }; watcher = new.watcher }

pub of_parts : {P S C D V : Type 0} (renews : P → FrontValue → Rows → ℕ → P → Type 0) (notes : V → List (List ℕ) → V → Type 0) (tells : C → ℕ → C → Type 0) (here : Staying P S C D V) (new : Parts P C V) → RenewsParts renews notes tells here.served.server (parts_of here) new
    → RenewsFront renews notes tells here (with_parts here new)
of_parts renews notes tells here _ keeps_front = stays
of_parts renews notes tells here _ (puts_front front at clock port watcher told renewed noted) = puts front at clock port watcher told renewed noted
of_parts renews notes tells here _ (puts_none at clock told) = can_not at clock told

module _ {P S C D V : Type 0} (does : P → PortCall → P → Type 0) (failures : P → ℕ) (renews : P → FrontValue → Rows → ℕ → P → Type 0) (keeps : S → StoreCall → S → Type 0) (tells : C → ℕ → C → Type 0) (days : D → ℕ → D → Type 0)
    (sees : Sight V) (notes : V → List (List ℕ) → V → Type 0) (until : Option ℕ) where
  abbrev Watched : Turned → Staying P S C D V → Staying P S C D V → Type 0
  Watched r old new = Takes (WatchesOn does failures keeps tells days sees until) (BreaksStaying does keeps tells fault.Port) (WatchesLast does failures keeps tells days sees until) (CutsStaying does failures keeps tells days sees) r old new

  abbrev Renewed : Turned → Staying P S C D V → Staying P S C D V → Type 0
  Renewed r old new = Takes (RenewsOn does failures renews keeps tells days sees notes until) (BreaksStaying does keeps tells fault.Port) (WatchesLast does failures keeps tells days sees until) (CutsStaying does failures keeps tells days sees) r old new

  -- after a turn that went well
  pub renewed_so : (r : Turned) (old mid new : Staying P S C D V) → r ≡ t.Well → Watched r old mid → RenewsFront renews notes tells mid new → Renewed r old new
  renewed_so t.Well old mid new is takes renewed = (takes.0, (mid, takes.1, renewed))
  renewed_so t.Last old mid new is takes renewed = absurd cc
  renewed_so (t.Failed cause) old mid new is takes renewed = absurd cc
  renewed_so (t.CutOff why) old mid new is takes renewed = absurd cc
