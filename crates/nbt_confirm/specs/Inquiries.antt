-- What a machine is asked about a name, and which response confirms: RFC 1002 sections 4.2.12 and 4.2.13. Who is asked, and what of
-- a response counts, is our profile.
use Rattle.std.specs.Prelude.{◌≡◌, ◌≢◌, ℕ, zero, suc, ◌+◌, ◌*◌, ◌/◌, ◌≤◌, Bool, true, false, ◌&&◌, nat_eq, if◌then◌else◌, List, [], ◌∷◌, ◌++◌, length, slice_range, Contains}
use Rattle.nbt_name.specs.Wire.{NameValue, same_name}
use Rattle.nbt_name.specs.Words.{long_at}
use Rattle.nbt_name.specs.declared.addr.Addr.{Addr}
use Rattle.nbt_name.specs.declared.addr.Kind.{Kind}
use Rattle.nbt_name.specs.declared.addr.Kind.TheVariants.{Unique, Group}
use Rattle.nbt_packet.specs.Message.{found, kind_in, nb}
use Rattle.nbt_packet.specs.Spelling.{Spells}
use Rattle.nbt_packet.specs.Text.{entry, question_octets}
use Rattle.nbt_confirm.specs.declared.inquiry.Inquiry.{Inquiry}
use Rattle.nbt_confirm.specs.declared.inquiry.Way.{Way}
use Rattle.nbt_confirm.specs.declared.response.Response.{Response}

-- NAME_SERVICE_UDP_PORT (RFC 1002 section 6)
abbrev pub name_port : ℕ
name_port = 137

-- where its queries go
abbrev pub way_of : Inquiry → Way
way_of i = record { asked = i.asked; local = i.local }

-- A name query to one end, with RD clear: a machine answers it for the names that it holds, and for no others.
abbrev pub inquiry_form : Inquiry → List ℕ
inquiry_form i = question_octets i.id 0 nb i.name

-- ---- the addresses that a response lists

abbrev pub same_kind : Kind → Kind → Bool
same_kind Unique Unique = true
same_kind Unique Group = false
same_kind Group Unique = false
same_kind Group Group = true

-- the n-th entry, of six octets
abbrev pub entry_at : List ℕ → ℕ → List ℕ
entry_at entries n = slice_range entries (6 * n) (6 * n + 6)

-- an entry's address, where the entry is of this kind
abbrev pub addr_if : Kind → List ℕ → List ℕ
addr_if kind rdata = if same_kind (kind_in rdata) kind then long_at rdata 2 ∷ [] else []

-- the addresses of this kind among the first n entries, in their order; and among all
abbrev pub listed_first : Kind → List ℕ → ℕ → List ℕ
listed_first kind entries zero = []
listed_first kind entries (suc n) = listed_first kind entries n ++ addr_if kind (entry_at entries n)

abbrev pub listed : Kind → List ℕ → List ℕ
listed kind entries = listed_first kind entries (length entries / 6)

-- ---- what confirms

-- the most entries, and the most octets, of a response that counts
abbrev pub entries_most : ℕ
entries_most = 86

abbrev pub octets_most : ℕ
octets_most = 576

-- A positive name query response: the address that sent it, and what it says.
pub record ResponseValue : Type 0 where
  pub addr : ℕ
  pub id : ℕ
  pub name : NameValue
  pub entries : List ℕ

abbrev pub response_of : Response → ResponseValue
response_of r = record { addr = r.addr; id = r.id; name = r.name; entries = r.entries.now }

-- It came from the port of the name service, and is no longer than a datagram may be.
pub record IsResponse (from : Addr) (octets : List ℕ) (r : ResponseValue) : Type 0 where
  pub addr_is : r.addr ≡ from.ip
  pub port_is : from.port ≡ name_port
  pub few_octets : length octets ≤ octets_most
  pub ttl : ℕ
  pub cut : Bool
  pub spelled : Spells octets (found r.id r.name ttl r.entries cut)
  pub few_entries : length r.entries ≤ 6 * entries_most

-- It is of the address that was asked, and has the id and the name.
abbrev pub is_answered_by : ResponseValue → Inquiry → Bool
is_answered_by r i = same_name i.name r.name && nat_eq i.asked r.addr && nat_eq i.id r.id

-- A machine: the addresses that it listed itself, when it was asked about a name at one of them.
pub record MachineValue : Type 0 where
  pub name : NameValue
  pub kind : Kind
  pub asked : ℕ
  pub addrs : List ℕ

abbrev pub machine_by : Inquiry → ResponseValue → MachineValue
machine_by i r = record { name = i.name; kind = i.kind; asked = i.asked; addrs = listed i.kind r.entries }

-- Octets from an endpoint confirm that the machine at the address that was asked is this: they come from that address and the port of
-- the name service, are no longer than a datagram may be, and spell a positive response with the inquiry's id and name.
pub record Confirms (i : Inquiry) (from : Addr) (octets : List ℕ) (machine : MachineValue) : Type 0 where
  pub asked_is : from.ip ≡ i.asked
  pub port_is : from.port ≡ name_port
  pub few_octets : length octets ≤ octets_most
  pub ttl : ℕ
  pub entries : List ℕ
  pub cut : Bool
  pub spelled : Spells octets (found i.id i.name ttl entries cut)
  pub few_entries : length entries ≤ 6 * entries_most
  pub machine_is : machine ≡ record { name = i.name; kind = i.kind; asked = i.asked; addrs = listed i.kind entries }

-- the response of a machine that lists the address alone at which it is asked, as our nodes do
abbrev pub ListsItselfAlone : Addr → (octets : List ℕ) → Type 0
ListsItselfAlone from octets = (id : ℕ) × (name : NameValue) × (ttl : ℕ) × (kind : Kind) × (cut : Bool) × Spells octets (found id name ttl (entry kind from.ip) cut)

-- ---- what may be listed

-- A further address of the machine of a name's holder.
pub record ConfirmedValue : Type 0 where
  pub name : NameValue
  pub holder : ℕ
  pub addr : ℕ

-- It is of the machine: the holder was asked, and listed it, and it is another address than the holder's.
pub record IsFurther (machine : MachineValue) (c : ConfirmedValue) : Type 0 where
  pub name_is : c.name ≡ machine.name
  pub holder_is : c.holder ≡ machine.asked
  pub listed_is : Contains machine.addrs c.addr
  pub other : c.addr ≢ machine.asked
