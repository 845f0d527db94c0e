-- Faults and refusals, with their numbers and words (our profile).
use Rattle.std.specs.Prelude.{ℕ, List, codes}
use Rattle.nbt_name.specs.declared.fault.NameFaultKind.{NameFaultKind}
use Rattle.nbt_name.specs.declared.fault.NameFaultKind.TheVariants as kinds
use Rattle.nbt_name.specs.declared.fault.NameRefusal.{NameRefusal}
use Rattle.nbt_name.specs.declared.fault.NameRefusal.TheVariants as refusals

abbrev pub fault_number : NameFaultKind → ℕ
fault_number kinds.Short = 1
fault_number kinds.BadLabel = 2
fault_number kinds.BadHalf = 3
fault_number kinds.BadPointer = 4
fault_number kinds.Long = 5

-- the word by which a fault is printed and read
abbrev pub fault_word : NameFaultKind → List ℕ
fault_word kinds.Short = codes "Short"
fault_word kinds.BadLabel = codes "BadLabel"
fault_word kinds.BadHalf = codes "BadHalf"
fault_word kinds.BadPointer = codes "BadPointer"
fault_word kinds.Long = codes "Long"

abbrev pub refusal_number : NameRefusal → ℕ
refusal_number refusals.Star = 1
refusal_number refusals.ScopeLong = 2
refusal_number refusals.BadLabel = 3
