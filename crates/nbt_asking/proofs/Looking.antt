-- What was set aside, and what the server did.
use Rattle.std.proofs.Common.{◌≡◌, ℕ, Bool, true, false, List, refl, ap}
use Rattle.nbt_lease.specs.Lease.{TableValue}
use Rattle.nbt_port.specs.PortCalls.{PortCall}
use Rattle.nbt_server.specs.declared.outcome.Outcome.{Outcome}
use Rattle.nbt_confirm.specs.declared.request.Came.{Came}
use Rattle.nbt_confirm.specs.declared.request.Request.{Request}
use Rattle.nbt_confirm.specs.Deciding.{IsHeldBack}
use Rattle.nbt_confirm.specs.Waiting.{WaitsValue}
use Rattle.nbt_waits.specs.Looking.{IsLookedAt, Kept, nothing, aside, back}
use Rattle.nbt_waits.specs.Settling.{holds_back}
use Rattle.nbt_asking.specs.Attending.{DoesSo, IsActive, LooksAtOutcome, Refuses, exactly, holds, refuses}
use Rattle.nbt_asking.specs.Port.{AskingPortValue}

-- what waits to be looked at came somehow
pub looked_is : (kept : Kept) → IsLookedAt kept → (c : Came) × (octets : List ℕ) × (kept ≡ aside c octets)
looked_is nothing is = absurd is
looked_is (aside c octets) is = (c, octets, refl)
looked_is (back c octets) is = absurd is

-- the requests wait as before
pub same_requests : (old new : WaitsValue) → new.requests ≡ old.requests → new ≡ record old { pending = new.pending }
same_requests old new is = ap (λ (rs : List Request). record new { requests = rs }) is

-- a refusal is held back, or it leaves
pub held_or_refused : {P I : Type 0} (does : P → PortCall → P → Type 0) (table : TableValue) (now : ℕ) (c : Came) (octets : List ℕ) (outcome : Outcome) (old new : AskingPortValue P I) (is : Bool) → IsActive outcome
    → (is ≡ true → (r : Request) × IsHeldBack table now c octets outcome r × DoesSo does (exactly (holds_back table now r)) old new)
    → (is ≡ false → ((r : Request) → ¬ IsHeldBack table now c octets outcome r) × Refuses does c octets old new)
    → LooksAtOutcome does table now c octets outcome old is new
held_or_refused does table now c octets outcome old new true active held refused = let h = held refl in holds h.0 new h.1 h.2
held_or_refused does table now c octets outcome old new false active held refused = let r = refused refl in refuses new active r.0 r.1
