-- What a datagram changes in the leases of a server (our profile).
use Rattle.std.specs.Prelude.{◌≡◌, ℕ, List, Bool, true, false, filter, Option, Some, None, is_some, IfSome}
use Rattle.nbt_name.specs.Wire.{NameValue}
use Rattle.nbt_lease.specs.Lease.{Leases, is_live, leases_at, AreApart}
use Rattle.nbt_server.specs.Serving.{ServerValue}
use Rattle.nbt_server.specs.Calls.{ServerHandles}
use Rattle.nbt_server.specs.declared.outcome.Outcome.{Outcome}
use Rattle.nbt_server.specs.declared.outcome.Outcome.TheVariants.{Granted, Renewed, Refused, Released, NotLeased, NotReleased, Found, NotFound}
use Rattle.nbt_store.specs.declared.change.Change.{Change}
use Rattle.nbt_store.specs.declared.change.Change.TheVariants as changes
use Rattle.nbt_store.specs.Changes.{after, at_of, Stands}

-- What is kept has a server's leases: those that live at its last time, in their order. Leases that are over may stand
-- among them, and no two of a name are of one address.
pub record IsKept (kept : Leases) (server : ServerValue) : Type 0 where
  pub apart : (name : NameValue) → AreApart (kept name)
  pub live : (name : NameValue) → filter (is_live server.last) (kept name) ≡ leases_at server.last server.table.rows name

-- whether the server changed a lease: it granted, renewed or released one
abbrev pub changes_leases : Outcome → Bool
changes_leases (Granted claim seconds) = true
changes_leases (Renewed claim seconds) = true
changes_leases (Released claim) = true
changes_leases outcome = false

-- which name a request was about that was answered
abbrev pub name_of : Outcome → Option NameValue
name_of (Granted claim seconds) = Some claim.name
name_of (Renewed claim seconds) = Some claim.name
name_of (Refused claim refusal) = Some claim.name
name_of (Released claim) = Some claim.name
name_of (NotLeased claim) = Some claim.name
name_of (NotReleased claim refusal) = Some claim.name
name_of (Found name) = Some name
name_of (NotFound name) = Some name
name_of outcome = None

-- which name a change is about
abbrev pub changed_name : Change → Option NameValue
changed_name (changes.Began name lease at) = Some name
changed_name (changes.Moved name addr end at) = Some name
changed_name (changes.Released name addr at) = Some name
changed_name change = None

-- what is kept after a change, if there was one
abbrev pub after_any : Option Change → Leases → Leases
after_any None kept = kept
after_any (Some change) kept = after change kept

-- What a server changed in the leases by the datagram that it handled last, with this outcome, is this change, or nothing: whatever
-- was kept of its leases before has them after that, there is a change exactly where it changed a lease, its time is the server's, it is about
-- the request's name, and a lease that moves or goes was there.
pub record IsChange (outcome : Outcome) (new : ServerValue) (change : Option Change) : Type 0 where
  pub keeps : (old : ServerValue) (now ip : ℕ) (octets out : List ℕ) → ServerHandles old now ip octets outcome out new → (kept : Leases) → IsKept kept old → IsKept (after_any change kept) new
  pub some : (old : ServerValue) (now ip : ℕ) (octets out : List ℕ) → ServerHandles old now ip octets outcome out new → is_some change ≡ changes_leases outcome
  pub time : IfSome change (λ c. at_of c ≡ new.last)
  pub named : IfSome change (λ c. changed_name c ≡ name_of outcome)
  pub stands : (old : ServerValue) (now ip : ℕ) (octets out : List ℕ) → ServerHandles old now ip octets outcome out new → (kept : Leases) → IsKept kept old → IfSome change (λ c. Stands c kept)
