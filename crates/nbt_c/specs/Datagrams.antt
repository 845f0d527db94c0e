-- What the calls answer that read a datagram, that split data into packets, and by which a datagram comes to a node in C's memory.
use Rattle.std.specs.Prelude.{◌≡◌, ◌≢◌, ℕ, ◌+◌, ◌<◌, true, false, List, [], length, slice_get, Option, Some, None, ◌≤◌}
use Rattle.nbt_name.specs.declared.addr.Addr.{Addr}
use Rattle.nbt_lease.specs.Config.{last_moment}
use Rattle.nbt_node.specs.Node.{NodeValue}
use Rattle.nbt_dgram.specs.declared.dgram.Part.{Part}
use Rattle.nbt_dgram.specs.declared.dgram.Part.TheVariants.{First, Later}
use Rattle.nbt_dgram.specs.declared.msg_type.Delivery.{Delivery}
use Rattle.nbt_dgram.specs.declared.msg_type.MsgType.TheVariants.{Data}
use Rattle.nbt_dgram.specs.Dgram.{BodyValue, fragment, error, lookup, DgramValue, type_of}
use Rattle.nbt_dgram.specs.Fragments.{IsSplit}
use Rattle.nbt_dgram.specs.Numbers.{type_number}
use Rattle.nbt_dgram.specs.Text.{names_text, text}
use Rattle.nbt_dgram.specs.Accepting.{AcceptValue, up, reply, told, waits, nothing, Accepts}
use Rattle.nbt_dgram.specs.Joiner.{JoinerValue}
use Rattle.nbt_c.specs.declared.datagram.CDgram.{CDgram}
use Rattle.nbt_c.specs.declared.name.CName.{CName}
use Rattle.nbt_c.specs.Ends.{addr_for}
use Rattle.nbt_c.specs.Names.{HoldsName, name_in, stored}
use Rattle.nbt_c.specs.Results.{no_kind, no_name, no_moment}
use Rattle.nbt_c.specs.declared.accepting.CAccept.{CAccept}

-- What a datagram is reported as: what its kind names; all else stays. The data begin behind the 14 octets of a head with DGM_LENGTH
-- and PACKET_OFFSET, and behind the names.
abbrev pub with_part : CDgram → Part → CDgram
with_part before (First names) = record before { first = true; offset = 0; source = stored names.source; destination = stored names.destination }
with_part before (Later offset) = record before { first = false; offset = offset }

abbrev pub with_body : CDgram → BodyValue → CDgram
with_body before (fragment f) = record (with_part before f.part) { more = f.more; place = 14 + length (names_text f.part); size = length f.payload }
with_body before (error code) = record before { code = code }
with_body before (lookup l name) = record before { destination = stored name }

abbrev pub dgram_after : CDgram → DgramValue → CDgram
dgram_after before d = record (with_body before d.body) { kind = type_number (type_of d.body); id = d.id; from = addr_for d.source }

-- the octets of a packet, if there is one
abbrev pub octets_of : Option DgramValue → List ℕ
octets_of None = []
octets_of (Some d) = text d

-- the number of `TooLong`
abbrev pub too_long : ℕ
too_long = 1

pub data SplitsFor (kind id : ℕ) (own : Addr) (source destination : CName) (payload : List ℕ) : ℕ → List ℕ → List ℕ → Type 0 where
  splits : (delivery : Delivery) (packets : List DgramValue) → HoldsName source → HoldsName destination → kind ≡ type_number (Data delivery)
      → IsSplit delivery id own (record { source = name_in source; destination = name_in destination }) payload packets
      → SplitsFor kind id own source destination payload 0 (octets_of (slice_get packets 0)) (octets_of (slice_get packets 1))
  has_much : (delivery : Delivery) → HoldsName source → HoldsName destination → kind ≡ type_number (Data delivery) → 512 < length payload
      → SplitsFor kind id own source destination payload too_long [] []
  has_no_kind : HoldsName source → HoldsName destination → ((delivery : Delivery) → kind ≢ type_number (Data delivery))
      → SplitsFor kind id own source destination payload no_kind [] []
  has_no_destination : HoldsName source → ¬ HoldsName destination → SplitsFor kind id own source destination payload no_name [] []
  has_no_source : ¬ HoldsName source → SplitsFor kind id own source destination payload no_name [] []

pub data AcceptsFor (old : JoinerValue) (now : ℕ) (node : NodeValue) (own : Addr) (octets : List ℕ) : ℕ → AcceptValue → List ℕ → JoinerValue → Type 0 where
  accepts : (outcome : AcceptValue) (sent : List ℕ) (new : JoinerValue) → now ≤ last_moment → Accepts old now node own octets outcome sent new → AcceptsFor old now node own octets 0 outcome sent new
  has_no_moment : last_moment < now → AcceptsFor old now node own octets no_moment nothing [] old

-- what an outcome is reported as: its kind, and what that names; all else stays
abbrev pub accept_after : CAccept → AcceptValue → CAccept
accept_after before nothing = record before { kind = 0 }
accept_after before (up names payload) = record before { kind = 1; source = stored names.source; destination = stored names.destination; size = length payload }
accept_after before (reply to) = record before { kind = 2; to = addr_for to }
accept_after before (told id code) = record before { kind = 3; id = id; code = code }
accept_after before waits = record before { kind = 4 }

-- the data of one
abbrev pub data_of : AcceptValue → List ℕ
data_of (up names payload) = payload
data_of outcome = []
