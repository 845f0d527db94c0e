-- Faults, with their numbers, words and places (our profile).
use Rattle.std.specs.Prelude.{ℕ, List, length, codes}
use Rattle.nbt_name.specs.declared.fault.NameFault.{NameFault}
use Rattle.nbt_name.specs.declared.fault.NameFaultKind.TheVariants as names
use Rattle.nbt_name.specs.Numbers.{fault_number as name_fault_number, fault_word as name_fault_word}
use Rattle.nbt_packet.specs.declared.fault.Fault.{Fault}
use Rattle.nbt_packet.specs.declared.fault.FaultKind.{FaultKind}
use Rattle.nbt_packet.specs.declared.fault.FaultKind.TheVariants as kinds

abbrev pub fault_number : FaultKind → ℕ
fault_number (kinds.Name kind) = name_fault_number kind
fault_number kinds.TooMany = 6

-- the word by which a fault is printed and read
abbrev pub fault_word : FaultKind → List ℕ
fault_word (kinds.Name kind) = name_fault_word kind
fault_word kinds.TooMany = codes "TooMany"

-- a name's fault, as a packet's
abbrev pub fault_of : NameFault → Fault
fault_of f = record { kind = kinds.Name f.kind; place = f.place }

-- the octets end where one is missing
abbrev pub short : List ℕ → Fault
short octets = record { kind = kinds.Name names.Short; place = length octets }

abbrev pub too_many : ℕ → Fault
too_many place = record { kind = kinds.TooMany; place = place }
