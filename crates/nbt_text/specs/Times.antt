-- Times as people write them (our profile).
use Rattle.std.specs.Prelude.{◌≡◌, ℕ, ◌*◌, ◌<◌, ◌^◌, ◌⊎◌, List, ◌++◌, Option, Some, None, length, slice_index, codes}
use Rattle.nbt_text.specs.HostNames.{IsLetter}
use Rattle.nbt_text.specs.Number.{SpellsNumber}
use Rattle.nbt_text.specs.declared.unit.UnitFault.{UnitFault}
use Rattle.nbt_text.specs.declared.unit.UnitFault.TheVariants.{Missing, Unknown}

-- the units, and how many milliseconds each has
abbrev pub IsUnit : List ℕ → ℕ → Type 0
IsUnit unit each = ((unit ≡ codes "ms") × (each ≡ 1)) ⊎ (((unit ≡ codes "s") × (each ≡ 1000)) ⊎ (((unit ≡ codes "m") × (each ≡ 60000))
    ⊎ (((unit ≡ codes "h") × (each ≡ 3600000)) ⊎ ((unit ≡ codes "d") × (each ≡ 86400000)))))

-- A number and its unit, in milliseconds.
pub record SpellsTime (text : List ℕ) (time : ℕ) : Type 0 where
  pub digits : List ℕ
  pub unit : List ℕ
  pub number : ℕ
  pub each : ℕ
  pub text_is : text ≡ digits ++ unit
  pub spells : SpellsNumber digits number
  pub is_unit : IsUnit unit each
  pub time_is : time ≡ number * each
  pub fits : time < 2 ^ 64

-- ---- what its unit can have wrong

-- letters that are no unit
pub record IsOtherUnit (unit : List ℕ) : Type 0 where
  pub some : 0 < length unit
  pub letters : (k : ℕ) → k < length unit → IsLetter (slice_index unit k)
  pub other : (each : ℕ) → ¬ IsUnit unit each

-- A number, and such letters behind it.
pub record HasOtherUnit (text : List ℕ) : Type 0 where
  pub digits : List ℕ
  pub unit : List ℕ
  pub number : ℕ
  pub text_is : text ≡ digits ++ unit
  pub spells : SpellsNumber digits number
  pub is_other : IsOtherUnit unit

-- A number alone has no unit.
pub data IsUnitFault (text : List ℕ) : Option UnitFault → Type 0 where
  missing : (number : ℕ) → SpellsNumber text number → IsUnitFault text (Some Missing)
  unknown : HasOtherUnit text → IsUnitFault text (Some Unknown)
  neither : ((number : ℕ) → ¬ SpellsNumber text number) → ¬ HasOtherUnit text → IsUnitFault text None
