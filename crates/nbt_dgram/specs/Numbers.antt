-- Message types, and faults with their numbers and places: RFC 1002 section 4.4.1; the faults are our profile's.
use Rattle.std.specs.Prelude.{ℕ, List, length, codes}
use Rattle.nbt_name.specs.declared.fault.NameFault.{NameFault}
use Rattle.nbt_name.specs.declared.fault.NameFaultKind.{NameFaultKind}
use Rattle.nbt_name.specs.declared.fault.NameFaultKind.TheVariants as names
use Rattle.nbt_dgram.specs.declared.fault.DgramFault.{DgramFault}
use Rattle.nbt_dgram.specs.declared.fault.DgramFaultKind.{DgramFaultKind}
use Rattle.nbt_dgram.specs.declared.fault.DgramFaultKind.TheVariants as kinds
use Rattle.nbt_dgram.specs.declared.joined.Dropped.{Dropped}
use Rattle.nbt_dgram.specs.declared.joined.Dropped.TheVariants as reasons
use Rattle.nbt_dgram.specs.declared.msg_type.Delivery.TheVariants.{DirectUnique, DirectGroup, Broadcast}
use Rattle.nbt_dgram.specs.declared.msg_type.Lookup.TheVariants.{Request, Positive, Negative}
use Rattle.nbt_dgram.specs.declared.msg_type.MsgType.{MsgType}
use Rattle.nbt_dgram.specs.declared.msg_type.MsgType.TheVariants as types

-- MSG_TYPE
abbrev pub type_number : MsgType → ℕ
type_number (types.Data DirectUnique) = 0x10
type_number (types.Data DirectGroup) = 0x11
type_number (types.Data Broadcast) = 0x12
type_number types.Error = 0x13
type_number (types.Lookup Request) = 0x14
type_number (types.Lookup Positive) = 0x15
type_number (types.Lookup Negative) = 0x16

-- how many octets a datagram of this type has at least: with DGM_LENGTH and PACKET_OFFSET, with an error's code, or
-- neither
abbrev pub head_size : MsgType → ℕ
head_size (types.Data delivery) = 14
head_size types.Error = 11
head_size (types.Lookup lookup) = 10

abbrev pub fault_number : DgramFaultKind → ℕ
fault_number kinds.Short = 1
fault_number kinds.BadLabel = 2
fault_number kinds.BadHalf = 3
fault_number kinds.BadPointer = 4
fault_number kinds.Long = 5
fault_number kinds.BadType = 6
fault_number kinds.BadOffset = 7
fault_number kinds.BadLength = 8

-- the word by which a fault is printed and read
abbrev pub fault_word : DgramFaultKind → List ℕ
fault_word kinds.Short = codes "Short"
fault_word kinds.BadLabel = codes "BadLabel"
fault_word kinds.BadHalf = codes "BadHalf"
fault_word kinds.BadPointer = codes "BadPointer"
fault_word kinds.Long = codes "Long"
fault_word kinds.BadType = codes "BadType"
fault_word kinds.BadOffset = codes "BadOffset"
fault_word kinds.BadLength = codes "BadLength"

abbrev pub dropped_number : Dropped → ℕ
dropped_number reasons.TooLong = 1
dropped_number reasons.Conflict = 2
dropped_number reasons.Full = 3
dropped_number reasons.ClockBack = 4

-- a name's fault, as a datagram's
abbrev pub kind_of : NameFaultKind → DgramFaultKind
kind_of names.Short = kinds.Short
kind_of names.BadLabel = kinds.BadLabel
kind_of names.BadHalf = kinds.BadHalf
kind_of names.BadPointer = kinds.BadPointer
kind_of names.Long = kinds.Long

abbrev pub fault_of : NameFault → DgramFault
fault_of f = record { kind = kind_of f.kind; place = f.place }

-- the same within the octets that DGM_LENGTH counts: where these end within a name, DGM_LENGTH is wrong
abbrev pub fault_by_kind : NameFaultKind → ℕ → DgramFault
fault_by_kind names.Short place = record { kind = kinds.BadLength; place = 10 }
fault_by_kind kind place = record { kind = kind_of kind; place = place }

abbrev pub fault_within : NameFault → DgramFault
fault_within f = fault_by_kind f.kind f.place

-- the octets end where one is missing
abbrev pub short : List ℕ → DgramFault
short octets = record { kind = kinds.Short; place = length octets }

abbrev pub bad_type : DgramFault
bad_type = record { kind = kinds.BadType; place = 0 }

abbrev pub bad_offset : DgramFault
bad_offset = record { kind = kinds.BadOffset; place = 12 }
