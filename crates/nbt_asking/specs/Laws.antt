-- What holds of all that is done between two turns, whatever the code does (our profile).
use Rattle.std.specs.Prelude.{◌≡◌, ◌<◌, ◌^◌, ℕ, Bool, true, List, [], Contains}
use Rattle.nbt_name.specs.Wire.{NameValue}
use Rattle.nbt_confirm.specs.declared.request.Came.{Came}
use Rattle.nbt_confirm.specs.declared.waits.Pending.{Pending}
use Rattle.nbt_confirm.specs.Inquiries.{ConfirmedValue, Confirms, IsFurther, ListsItselfAlone, MachineValue}
use Rattle.nbt_waits.specs.Looking.{IsLookedAt, aside}
use Rattle.nbt_asking.specs.declared.desk.Desk.{Desk}

-- It holds of each further address that is confirmed by what was set aside: octets from the address and the port that an inquiry under way asked,
-- with its id and its name, which list that address.
abbrev pub AreConfirmed : (NameValue → ℕ → Bool) → Desk → Type 0
AreConfirmed holds desk = (c : Came) (octets : List ℕ) (p : Pending) (machine : MachineValue) (f : ConfirmedValue)
    → desk.aside ≡ aside c octets → Contains desk.asking.waits.pending p → Confirms p.inquiry c.from octets machine → IsFurther machine f → holds f.name f.addr ≡ true

-- what was set aside, if it confirms an inquiry, lists the address alone from which it came, as a response of our nodes does
abbrev pub ListsItsOwn : Desk → Type 0
ListsItsOwn desk = (c : Came) (octets : List ℕ) (p : Pending) (machine : MachineValue) → desk.aside ≡ aside c octets → Confirms p.inquiry c.from octets machine → (c.from.ip < 2 ^ 32) × ListsItselfAlone c.from octets

-- nothing is set aside, no request waits, no inquiry is under way, and no address is a further one
pub record HasNobody (desk : Desk) : Type 0 where
  pub aside : ¬ IsLookedAt desk.aside
  pub requests : desk.asking.waits.requests ≡ []
  pub pending : desk.asking.waits.pending ≡ []
  pub further : desk.asking.further ≡ []
