-- The reader of names, as the spot that it stands at.
use Rattle.std.specs.Prelude.{◌≡◌, ℕ, List, [], ◌∷◌, ◌++◌, length, slice_get, Option, Some, None, Result, Ok, Err}
use Rattle.nbt_name.specs.declared.fault.NameFault.{NameFault}
use Rattle.nbt_name.specs.declared.form.Form.{Form}
use Rattle.nbt_name.specs.declared.reader.Progress.{Progress}
use Rattle.nbt_name.specs.declared.reader.Progress.TheVariants.{Moved, Closed}
use Rattle.nbt_name.specs.declared.reader.Reader.{Reader}
use Rattle.nbt_name.specs.Wire.{letters}
use Rattle.nbt_name.specs.Reading.{Spot, Step, Stuck, start}

-- the labels of sixteen octets and a scope
abbrev pub passed_of : Option (List ℕ) → List ℕ → List ℕ
passed_of None scope = []
passed_of (Some octets) scope = 0x20 ∷ letters octets ++ scope

-- A reader passed some scope, of which it knows the length alone, and stands at a spot.
abbrev pub spot_of : Reader → List ℕ → Spot
spot_of r scope = record { place = r.place; passed = passed_of r.first scope; resume = r.resume }

abbrev pub HasPassed : Reader → List ℕ → Type 0
HasPassed r scope = length scope ≡ r.scope

abbrev pub IsAtStart : ℕ → Reader → Type 0
IsAtStart place r = HasPassed r [] × (spot_of r [] ≡ start place)

-- it made a step from a spot
abbrev pub Goes : Form → List ℕ → Spot → Reader → Type 0
Goes form octets from r = (scope : List ℕ) × HasPassed r scope × Step form octets from (spot_of r scope)

-- a step or a fault, whatever scope it passed
abbrev pub Passes : Form → List ℕ → Reader → Reader → Result (Unit {0}) NameFault → Type 0
Passes form octets old new (Ok done) = (scope : List ℕ) → HasPassed old scope → Goes form octets (spot_of old scope) new
Passes form octets old new (Err fault) = (scope : List ℕ) → HasPassed old scope → Stuck form octets (spot_of old scope) fault

-- what one turn of the reader's loop does: a step, the closing zero found, or a fault
abbrev pub Turns : Form → List ℕ → Reader → Reader → Result Progress NameFault → Type 0
Turns form octets old new (Ok Moved) = (scope : List ℕ) → HasPassed old scope → Goes form octets (spot_of old scope) new
Turns form octets old new (Ok (Closed sixteen)) = (new ≡ old) × (old.first ≡ Some sixteen) × (slice_get octets old.place ≡ Some 0)
Turns form octets old new (Err fault) = (scope : List ℕ) → HasPassed old scope → Stuck form octets (spot_of old scope) fault
