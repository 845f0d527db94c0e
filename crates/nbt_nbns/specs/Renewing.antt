-- A server before which another front takes the place of its own while it serves (our profile).
use Rattle.std.specs.Prelude.{◌≡◌, ℕ, List, Option}
use Rattle.nbt_port.specs.PortCalls.{PortCall}
use Rattle.nbt_lease.specs.Lease.{Rows}
use Rattle.nbt_store.specs.Calls.{StoreCall}
use Rattle.nbt_front.specs.Deciding.{FrontValue, renewed}
use Rattle.nbt_front.specs.FixedNames.{capitals_of}
use Rattle.nbt_front.specs.FrontPort.{Fronted}
use Rattle.nbt_serve.specs.Runs.{live_rows}
use Rattle.nbt_nbns.specs.Staying.{Staying, WatchesOn}
use Rattle.nbt_nbns.specs.Teller.{Sight}
use Rattle.nbt_nbns.specs.declared.journal.Journal.{Journal}
use Rattle.nbt_nbns.specs.declared.staying.Shown.{Shown}

-- another front takes the place of that of a port, at a moment at which the server has these live leases
abbrev pub RenewsPort : {P : Type 0} → Fronted P → FrontValue → (live : Rows) → (at : ℕ) → Fronted P → Type 0
RenewsPort old front live at new = new ≡ record old { desk = renewed front live at old.desk }

-- from now on the hosts of a journal leave out what reads like one of these names
abbrev pub NotesNames : {D L : Type 0} → Journal D L → (capitals : List (List ℕ)) → Journal D L → Type 0
NotesNames old capitals new = new ≡ record old { fixed = capitals }

module _ {P S C D V : Type 0} (renews : P → FrontValue → Rows → ℕ → P → Type 0) (notes : V → List (List ℕ) → V → Type 0) (tells : C → ℕ → C → Type 0) where
  -- After a turn the front stays, or the clock is read and another one takes its place, if memory isn't out: the leases that the server has then stand in the
  -- way of its names, and what watches the server is told which these are. What the front says, no contract can say.
  pub data RenewsFront (old : Staying P S C D V) : Staying P S C D V → Type 0 where
    stays : RenewsFront old old
    puts : (front : FrontValue) (at : ℕ) (clock : C) (port : P) (watcher : V) → tells old.served.clock at clock → renews old.served.port front (live_rows old.served.server) at port → notes old.watcher (capitals_of front.fixed) watcher
        → RenewsFront old (record old { served = record old.served { port = port; clock = clock }; watcher = watcher })
    can_not : (at : ℕ) (clock : C) → tells old.served.clock at clock → RenewsFront old (record old { served = record old.served { clock = clock } })

module _ {P S C D V : Type 0} (does : P → PortCall → P → Type 0) (failures : P → ℕ) (renews : P → FrontValue → Rows → ℕ → P → Type 0) (keeps : S → StoreCall → S → Type 0) (tells : C → ℕ → C → Type 0) (days : D → ℕ → D → Type 0)
    (sees : Sight V) (notes : V → List (List ℕ) → V → Type 0) where
  -- a turn that isn't the last, and what becomes of the front after it
  abbrev pub RenewsOn : (until : Option ℕ) → Staying P S C D V → Shown → Staying P S C D V → Type 0
  RenewsOn until old shown new = (mid : Staying P S C D V) × WatchesOn does failures keeps tells days sees until old shown mid × RenewsFront renews notes tells mid new
