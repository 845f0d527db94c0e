-- What the octets of a session's stream are: RFC 1002 section 4.3.
use Rattle.std.specs.Prelude.{◌≡◌, ◌≢◌, ℕ, ◌+◌, ◌*◌, ◌<◌, ◌≤◌, List, ◌∷◌, ◌++◌, length}
use Rattle.std.specs.List.{flat_map, AllByRecursion}
use Rattle.nbt_name.specs.declared.fault.NameFault.{NameFault}
use Rattle.nbt_name.specs.declared.fault.NameFaultKind.{NameFaultKind}
use Rattle.nbt_name.specs.declared.fault.NameFaultKind.TheVariants as names
use Rattle.nbt_name.specs.Wire.{NameValue}
use Rattle.nbt_name.specs.Reading.{PlainNameAt, PlainFaultAt}
use Rattle.nbt_session.specs.declared.fault.Fault.{Fault}
use Rattle.nbt_session.specs.declared.fault.FaultKind.{FaultKind}
use Rattle.nbt_session.specs.declared.fault.FaultKind.TheVariants.{BadType, BadFlags, BadLength, BadName}
use Rattle.nbt_session.specs.declared.packet.PacketType.{PacketType}
use Rattle.nbt_session.specs.declared.packet.PacketType.TheVariants.{Request}
use Rattle.nbt_session.specs.Packet.{PacketValue, IsPacket, HasLength, octet_of, framed, text}

-- The octets begin with a whole packet, and the rest follows.
abbrev pub Begins : List ℕ → PacketValue → List ℕ → Type 0
Begins octets packet rest = IsPacket packet × (octets ≡ text packet ++ rest)

-- no whole packet
abbrev pub IsPartial : List ℕ → Type 0
IsPartial octets = (packet : PacketValue) (rest : List ℕ) → Begins octets packet rest → ⊥

-- The octets are the packets' texts, in order, then a rest that begins with no whole packet.
pub record StreamIs (octets : List ℕ) (packets : List PacketValue) (rest : List ℕ) : Type 0 where
  pub whole : octets ≡ flat_map text packets ++ rest
  pub each : AllByRecursion IsPacket packets
  pub partial : IsPartial rest

-- ---- faults

abbrev pub bad : FaultKind → ℕ → Fault
bad kind place = record { kind = kind; place = place }

-- A name's fault in a request, whose names stand after four octets; a name that doesn't end within LENGTH is a
-- fault of LENGTH.
abbrev pub name_fault_by : NameFaultKind → ℕ → Fault
name_fault_by names.Short place = bad BadLength 2
name_fault_by kind place = bad BadName (4 + place)

abbrev pub name_fault : NameFault → Fault
name_fault f = name_fault_by f.kind f.place

-- The octets that a request's LENGTH counts aren't two plain names: one of them has a fault, or both end before
-- LENGTH does.
pub data RequestFault (body : List ℕ) : Fault → Type 0 where
  called_bad : (fault : NameFault) → PlainFaultAt body 0 fault → RequestFault body (name_fault fault)
  calling_bad : (called : NameValue) (next : ℕ) (fault : NameFault) → PlainNameAt body 0 called next
      → PlainFaultAt body next fault
      → RequestFault body (name_fault fault)
  not_filled : (called calling : NameValue) (next end : ℕ) → PlainNameAt body 0 called next
      → PlainNameAt body next calling end
      → end < length body → RequestFault body (bad BadLength 2)

-- LENGTH with its 17th bit
abbrev pub count : (flags high low : ℕ) → ℕ
count flags high low = 65536 * flags + 256 * high + low

-- The octets have a fault, as soon as those are there that it names: TYPE is no packet's, FLAGS has another bit than
-- E, LENGTH isn't the type's, or a request that is whole has a fault.
pub data HasFault (octets : List ℕ) : Fault → Type 0 where
  type_bad : (octet : ℕ) (rest : List ℕ) → octets ≡ octet ∷ rest → ((kind : PacketType) → octet_of kind ≢ octet)
      → HasFault octets (bad BadType 0)
  flags_bad : (kind : PacketType) (flags : ℕ) (rest : List ℕ) → octets ≡ octet_of kind ∷ flags ∷ rest → 1 < flags
      → HasFault octets (bad BadFlags 1)
  length_bad : (kind : PacketType) (flags high low : ℕ) (rest : List ℕ)
      → octets ≡ octet_of kind ∷ flags ∷ high ∷ low ∷ rest → flags ≤ 1
      → ¬ HasLength kind (count flags high low) → HasFault octets (bad BadLength 2)
  request_bad : (body rest : List ℕ) (fault : Fault) → octets ≡ framed Request body ++ rest
      → HasLength Request (length body)
      → RequestFault body fault → HasFault octets fault
