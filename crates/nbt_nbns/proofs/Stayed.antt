-- What came of a turn of a server that stays up.
use Rattle.std.proofs.Common.{◌≡◌, ◌≢◌, ℕ, sym, subst, ◌∙◌, Option}
use Rattle.nbt_port.specs.PortCalls.{PortCall}
use Rattle.nbt_port.specs.Staying.{Takes}
use Rattle.nbt_port.specs.declared.fault.Fault.{Fault}
use Rattle.nbt_port.specs.declared.fault.Fault.TheVariants as f
use Rattle.nbt_port.specs.declared.staying.Turned.{Turned}
use Rattle.nbt_port.specs.declared.staying.Turned.TheVariants as t
use Rattle.nbt_server.specs.Serving.{ServerValue}
use Rattle.nbt_store.specs.Calls.{StoreCall}
use Rattle.nbt_nbns.specs.Teller.{Sight}
use Rattle.nbt_nbns.specs.declared.staying.Shown.{Shown}
use Rattle.nbt_nbns.specs.declared.state.State.{State}
use Rattle.nbt_nbns.specs.Inner.Ending.{EndsSo, ComesTo}
use Rattle.nbt_nbns.specs.Staying.{Staying, LooksAfterState, Shows, WatchesOn, WatchesLast, BreaksStaying, after_turn, CutsStaying}
use Rattle.nbt_serve.specs.declared.fault.KeepFault.TheVariants as fault

pub looked_so : {S D : Type 0} (keeps : S → StoreCall → S → Type 0) (days : D → ℕ → D → Type 0) (server : ServerValue) (until : Option ℕ) (at : ℕ) (old : Option (State S)) (old_day : D) (new : Option (State S)) (day : D) (r : Turned) → LooksAfterState keeps days server at old old_day new day → EndsSo until at new r
    → ComesTo keeps days server until at old old_day new day r
looked_so keeps days server until at old old_day new day t.Well looks ends = (looks, ends)
looked_so keeps days server until at old old_day new day t.Last looks ends = (looks, ends)
looked_so keeps days server until at old old_day new day (t.Failed cause) looks ends = absurd ends
looked_so keeps days server until at old old_day new day (t.CutOff why) looks ends = absurd ends

not_device : (why : Fault) → why ≡ f.Store → why ≢ f.Device
not_device why is = λ other. let same : f.Store ≡ f.Device = sym is ∙ other in absurd cc

module _ {P S C D V : Type 0} (does : P → PortCall → P → Type 0) (failures : P → ℕ) (keeps : S → StoreCall → S → Type 0) (tells : C → ℕ → C → Type 0) (days : D → ℕ → D → Type 0) (sees : Sight V) (until : Option ℕ) where
  pub came_to : (r : Turned) (old new : Staying P S C D V) (mid : Option (State S)) (shown : Shown) → Shows does failures keeps tells days sees old shown (record new { served = record new.served { state = mid } })
      → ComesTo keeps days new.served.server until shown.at mid old.day new.served.state new.day r
      → Takes (WatchesOn does failures keeps tells days sees until) (BreaksStaying does keeps tells fault.Port) (WatchesLast does failures keeps tells days sees until) (CutsStaying does failures keeps tells days sees) r old new
  came_to t.Well old new mid shown shows e = (shown, (record { mid = mid; shows = shows; looks = e.0 }, e.1))
  came_to t.Last old new mid shown shows e = (shown, record { mid = mid; shows = shows; looks = e.0 }, e.1.0, e.1.1)
  came_to (t.Failed cause) old new mid shown shows e = absurd e.1
  came_to (t.CutOff why) old new mid shown shows e =
      (not_device why e.0, subst (λ (x : Fault). CutsStaying does failures keeps tells days sees x old new) (sym e.0) (after_turn shown mid shows e.1))
