-- Datagrams, and what octets can have wrong: RFC 1002 section 4.4. What names and offsets mean in a fragment is our
-- profile's choice.
use Rattle.std.specs.Prelude.{◌≡◌, ◌≢◌, ℕ, ◌<◌, ◌≤◌, Bool, true, false, List, length, slice_range, Result, Ok, Err}
use Rattle.nbt_name.specs.declared.addr.Addr.{Addr}
use Rattle.nbt_name.specs.declared.fault.NameFault.{NameFault}
use Rattle.nbt_name.specs.Wire.{NameValue}
use Rattle.nbt_name.specs.Reading.{PlainNameAt, PlainFaultAt}
use Rattle.nbt_dgram.specs.declared.fault.DgramFault.{DgramFault}
use Rattle.nbt_dgram.specs.declared.msg_type.Delivery.{Delivery}
use Rattle.nbt_dgram.specs.declared.msg_type.Lookup.{Lookup}
use Rattle.nbt_dgram.specs.declared.msg_type.MsgType.{MsgType}
use Rattle.nbt_dgram.specs.declared.msg_type.MsgType.TheVariants as types
use Rattle.nbt_dgram.specs.declared.dgram.Names.{Names}
use Rattle.nbt_dgram.specs.declared.dgram.Part.{Part}
use Rattle.nbt_dgram.specs.declared.dgram.Part.TheVariants.{First, Later}
use Rattle.nbt_dgram.specs.declared.dgram.Fragment.{Fragment}
use Rattle.nbt_dgram.specs.declared.dgram.Body.{Body}
use Rattle.nbt_dgram.specs.declared.dgram.Body.TheVariants as bodies
use Rattle.nbt_dgram.specs.declared.dgram.Dgram.{Dgram}
use Rattle.nbt_dgram.specs.Numbers.{type_number, head_size, fault_of, fault_within, short, bad_type, bad_offset}
use Rattle.nbt_name.specs.Words.{word_at, long_at}
use Rattle.nbt_dgram.specs.Fields.{octet_at, first_at, more_at, offset_at, end_at, within}

-- A fragment of a datagram, or a whole one, without where its octets lie in memory: the names stand in the first
-- alone, and a later one says how many octets of data stand before it.
pub record FragmentValue : Type 0 where
  pub delivery : Delivery
  pub part : Part
  pub more : Bool
  pub payload : List ℕ

pub data BodyValue : Type 0 where
  fragment : FragmentValue → BodyValue
  error : (code : ℕ) → BodyValue
  lookup : Lookup → NameValue → BodyValue

pub record DgramValue : Type 0 where
  pub id : ℕ
  pub source : Addr
  pub body : BodyValue

abbrev pub type_of : BodyValue → MsgType
type_of (fragment f) = types.Data f.delivery
type_of (error code) = types.Error
type_of (lookup l name) = types.Lookup l

-- ---- what stands in octets

abbrev pub IsTypeAt : List ℕ → MsgType → Type 0
IsTypeAt octets t = (0 < length octets) × (octet_at octets 0 ≡ type_number t)

-- Two plain names stand at 14, one after the other, and `next` is the place after them.
pub record NamesAt (octets : List ℕ) (names : Names) (next : ℕ) : Type 0 where
  pub named : ℕ
  pub source : PlainNameAt octets 14 names.source named
  pub destination : PlainNameAt octets named names.destination next

-- With F there are names, and PACKET_OFFSET is 0; without F there are none.
abbrev pub PartAt : List ℕ → Part → ℕ → Type 0
PartAt octets (First names) next = (first_at octets ≡ true) × (offset_at octets ≡ 0) × NamesAt (within octets) names next
PartAt octets (Later offset) next = (first_at octets ≡ false) × (offset ≡ offset_at octets) × (next ≡ 14)

-- A fragment stands in octets whose types and lengths are there: the names, where it has them, and its data fill what
-- DGM_LENGTH counts.
pub record FragmentAt (octets : List ℕ) (f : FragmentValue) (next : ℕ) : Type 0 where
  pub begin : ℕ
  pub whole : end_at octets ≤ length octets
  pub part : PartAt octets f.part begin
  pub more : f.more ≡ more_at octets
  pub payload : f.payload ≡ slice_range octets begin (end_at octets)
  pub next_is : next ≡ end_at octets

abbrev pub BodyAt : List ℕ → BodyValue → ℕ → Type 0
BodyAt octets (fragment f) next = FragmentAt octets f next
BodyAt octets (error code) next = (code ≡ octet_at octets 10) × (next ≡ 11)
BodyAt octets (lookup l name) next = PlainNameAt octets 10 name next

-- The octets begin with a datagram of n octets.
pub record DgramIs (octets : List ℕ) (d : DgramValue) (n : ℕ) : Type 0 where
  pub type : IsTypeAt octets (type_of d.body)
  pub head : head_size (type_of d.body) ≤ length octets
  pub id : d.id ≡ word_at octets 2
  pub ip : d.source.ip ≡ long_at octets 4
  pub port : d.source.port ≡ word_at octets 8
  pub body : BodyAt octets d.body n

-- ---- faults

-- One of two names has a fault.
pub data NamesFault (octets : List ℕ) : DgramFault → Type 0 where
  source_bad : (fault : NameFault) → PlainFaultAt octets 14 fault → NamesFault octets (fault_within fault)
  destination_bad : (name : NameValue) (named : ℕ) (fault : NameFault) → PlainNameAt octets 14 name named → PlainFaultAt octets named fault → NamesFault octets (fault_within fault)

-- A fragment's fault after the ten octets that each datagram begins with: a first one is not at 0, it is cut, or has
-- a bad name.
pub data FragmentFault (octets : List ℕ) : DgramFault → Type 0 where
  offset_bad : first_at octets ≡ true → offset_at octets ≢ 0 → FragmentFault octets bad_offset
  fragment_cut : (first_at octets ≡ true → offset_at octets ≡ 0) → length octets < end_at octets → FragmentFault octets (short octets)
  names_bad : (fault : DgramFault) → first_at octets ≡ true → offset_at octets ≡ 0 → end_at octets ≤ length octets → NamesFault (within octets) fault
      → FragmentFault octets fault

-- The octets have a fault: what stands before one part is right, and that part is missing, cut or bad.
pub data FaultIs (octets : List ℕ) : DgramFault → Type 0 where
  nothing_there : length octets ≡ 0 → FaultIs octets (short octets)
  type_bad : 0 < length octets → ((t : MsgType) → octet_at octets 0 ≢ type_number t) → FaultIs octets bad_type
  head_cut : (t : MsgType) → IsTypeAt octets t → length octets < head_size t → FaultIs octets (short octets)
  fragment_bad : (delivery : Delivery) (fault : DgramFault) → IsTypeAt octets (types.Data delivery) → 14 ≤ length octets → FragmentFault octets fault → FaultIs octets fault
  lookup_bad : (l : Lookup) (fault : NameFault) → IsTypeAt octets (types.Lookup l) → 10 ≤ length octets → PlainFaultAt octets 10 fault → FaultIs octets (fault_of fault)

-- ---- what the code holds, as values

abbrev pub fragment_of : Fragment → FragmentValue
fragment_of f = record { delivery = f.delivery; part = f.part; more = f.more; payload = f.payload.now }

abbrev pub body_of : Body → BodyValue
body_of (bodies.Fragment f) = fragment (fragment_of f)
body_of (bodies.Error code) = error code
body_of (bodies.Lookup l name) = lookup l name

abbrev pub dgram_of : Dgram → DgramValue
dgram_of d = record { id = d.id; source = d.source; body = body_of d.body }

abbrev pub decoded : Result (Dgram × ℕ) DgramFault → Result (DgramValue × ℕ) DgramFault
decoded (Ok read) = Ok (dgram_of read.0, read.1)
decoded (Err fault) = Err fault
