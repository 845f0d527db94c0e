-- The one written form of each datagram: RFC 1002 section 4.4.
use Rattle.std.specs.Prelude.{ℕ, ◌+◌, ◌^◌, ◌<◌, Bool, true, false, List, [], ◌∷◌, ◌++◌, length}
use Rattle.nbt_name.specs.declared.addr.Addr.{Addr}
use Rattle.nbt_name.specs.Wire.{IsName, wire}
use Rattle.nbt_dgram.specs.declared.dgram.Part.{Part}
use Rattle.nbt_dgram.specs.declared.dgram.Part.TheVariants.{First, Later}
use Rattle.nbt_dgram.specs.declared.msg_type.MsgType.{MsgType}
use Rattle.nbt_dgram.specs.Numbers.{type_number}
use Rattle.nbt_name.specs.Words.{word, long}
use Rattle.nbt_dgram.specs.Dgram.{FragmentValue, BodyValue, fragment, error, lookup, DgramValue, type_of}

-- how many octets of data stand before a fragment's, its names, and how many octets these and its data are: what
-- PACKET_OFFSET and DGM_LENGTH say
abbrev pub offset_of : Part → ℕ
offset_of (First names) = 0
offset_of (Later offset) = offset

abbrev pub names_text : Part → List ℕ
names_text (First names) = wire names.source ++ wire names.destination
names_text (Later offset) = []

abbrev pub dgm_length : FragmentValue → ℕ
dgm_length f = length (names_text f.part) + length f.payload

-- FLAGS of a P node: SNT 01, then F and M
abbrev pub flags_by : Part → Bool → ℕ
flags_by (First names) false = 0x06
flags_by (First names) true = 0x07
flags_by (Later offset) false = 0x04
flags_by (Later offset) true = 0x05

abbrev pub flags_of : BodyValue → ℕ
flags_of (fragment f) = flags_by f.part f.more
flags_of body = 0x06

abbrev pub head : MsgType → (flags id : ℕ) → Addr → List ℕ
head t flags id source = type_number t ∷ flags ∷ word id ++ long source.ip ++ word source.port

abbrev pub body_text : BodyValue → List ℕ
body_text (fragment f) = word (dgm_length f) ++ word (offset_of f.part) ++ names_text f.part ++ f.payload
body_text (error code) = code ∷ []
body_text (lookup l name) = wire name

abbrev pub text : DgramValue → List ℕ
text d = head (type_of d.body) (flags_of d.body) d.id d.source ++ body_text d.body

-- ---- which datagrams have a written form

-- DGM_LENGTH, where there is one, is at most 65,535
abbrev pub BodyFits : BodyValue → Type 0
BodyFits (fragment f) = dgm_length f < 2 ^ 16
BodyFits body = Unit {0}

abbrev pub Fits : DgramValue → Type 0
Fits d = BodyFits d.body

-- the numbers that a datagram holds are what they stand for, and its names are names
abbrev pub IsPart : Part → Type 0
IsPart (First names) = IsName names.source × IsName names.destination
IsPart (Later offset) = offset < 2 ^ 16

abbrev pub BodyHolds : BodyValue → Type 0
BodyHolds (fragment f) = IsPart f.part
BodyHolds (error code) = code < 2 ^ 8
BodyHolds (lookup l name) = IsName name

abbrev pub HoldsNumbers : DgramValue → Type 0
HoldsNumbers d = (d.id < 2 ^ 16) × (d.source.ip < 2 ^ 32) × (d.source.port < 2 ^ 16) × BodyHolds d.body
