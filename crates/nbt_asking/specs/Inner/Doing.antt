-- What is taken back, one thing that is done, and where nothing is to be done.
use Rattle.std.specs.Prelude.{◌≡◌, ℕ, Bool, true, false, List, [], ◌∷◌, Option, Some, None}
use Rattle.nbt_packet.specs.Message.{registration}
use Rattle.nbt_packet.specs.Text.{text}
use Rattle.nbt_log.specs.declared.entry.Entry.{Entry}
use Rattle.nbt_confirm.specs.declared.request.Came.{Came}
use Rattle.nbt_confirm.specs.declared.request.Request.{Request}
use Rattle.nbt_waits.specs.declared.asking.Asking.{Asking}
use Rattle.nbt_waits.specs.Asking.{came_of, claim_of}
use Rattle.nbt_waits.specs.Looking.{IsLookedAt}
use Rattle.nbt_asking.specs.declared.desk.Desk.{Desk}
use Rattle.nbt_asking.specs.Attending.{IsActive, ReleasesNone}

-- the first request that the server may grant comes to it, as its own text
pub record TakesGranted (old : Asking) (octets : List ℕ) (new : Asking) (came : Came) : Type 0 where
  pub request : Request
  pub others : List Request
  pub was : old.granted ≡ request ∷ others
  pub came_is : came ≡ came_of request
  pub octets_are : octets ≡ text (registration (claim_of request))
  pub new_is : new ≡ record old { granted = others }

-- One step is taken, and said to be; or it ends so.
abbrev pub One : {S : Type 0} → (step ends : S → S → Type 0) → Bool → S → S → Type 0
One step ends true old new = step old new
One step ends false old new = ends old new

-- nothing is to be done about what the server did
abbrev pub IsLetBe : Option Entry → Type 0
IsLetBe None = Unit {0}
IsLetBe (Some entry) = (¬ IsActive entry.outcome) × ReleasesNone entry.outcome

-- nothing is set aside or waits, and no address is a further one
pub record IsIdle (desk : Desk) : Type 0 where
  pub aside : ¬ IsLookedAt desk.aside
  pub requests : desk.asking.waits.requests ≡ []
  pub pending : desk.asking.waits.pending ≡ []
  pub further : desk.asking.further ≡ []
