-- Which change an outcome is (private functions alone).
use Rattle.std.specs.Prelude.{◌≡◌, ℕ, ◌+◌, List, ◌∷◌, ◌++◌, Option, Some, None}
use Rattle.nbt_lease.specs.declared.lease.Lease.{Lease}
use Rattle.nbt_lease.specs.Config.{milliseconds}
use Rattle.nbt_lease.specs.Lease.{Leases, HasNone}
use Rattle.nbt_server.specs.declared.outcome.Claim.{Claim}
use Rattle.nbt_server.specs.declared.outcome.Outcome.{Outcome}
use Rattle.nbt_server.specs.declared.outcome.Outcome.TheVariants as did
use Rattle.nbt_store.specs.declared.change.Change.{Change}
use Rattle.nbt_store.specs.declared.change.Change.TheVariants.{Began, Moved, Released}

-- the lease of a claim that is granted now for some seconds
abbrev pub lease_of : (now : ℕ) → Claim → (seconds : ℕ) → Lease
lease_of now claim seconds = record { addr = claim.addr; kind = claim.kind; end = now + milliseconds seconds }

-- The lease of the claim's address moved now to the expiry that it has among these, if it is there.
abbrev pub TellsMove : (now : ℕ) → Claim → Leases → Option Change → Type 0
TellsMove now claim leases None = HasNone claim.addr (leases claim.name)
TellsMove now claim leases (Some change) =
    (before : List Lease) × (lease : Lease) × (behind : List Lease) × (leases claim.name ≡ before ++ lease ∷ behind) × (lease.addr ≡ claim.addr) × (change ≡ Moved claim.name claim.addr lease.end now)

-- The change that the server made now, by what it did and by the leases that live afterwards.
abbrev pub Tells : (now : ℕ) → Leases → Outcome → Option Change → Type 0
Tells now leases (did.Granted claim seconds) change = change ≡ Some (Began claim.name (lease_of now claim seconds) now)
Tells now leases (did.Renewed claim seconds) change = TellsMove now claim leases change
Tells now leases (did.Released claim) change = change ≡ Some (Released claim.name claim.addr now)
Tells now leases outcome change = change ≡ None
