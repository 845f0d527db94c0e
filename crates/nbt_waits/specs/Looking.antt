-- Which datagrams are looked at before a server handles them, and what becomes of these (our profile).
use Rattle.std.specs.Prelude.{◌≡◌, ◌≢◌, ◌⊎◌, ℕ, Bool, true, List, Some}
use Rattle.nbt_packet.specs.declared.message.Registration.{Registration}
use Rattle.nbt_packet.specs.Message.{IsRequest, opcode_of, refresh, registration}
use Rattle.nbt_packet.specs.Packet.{PacketIs, PacketValue, RecordValue}
use Rattle.nbt_packet.specs.Spelling.{Spells}
use Rattle.nbt_packet.specs.Text.{entry}
use Rattle.nbt_lease.specs.Lease.{TableValue}
use Rattle.nbt_confirm.specs.declared.request.Awaits.{Awaits}
use Rattle.nbt_confirm.specs.declared.request.Came.{Came}
use Rattle.nbt_confirm.specs.Deciding.{AsksFirst, Claims, request_of}
use Rattle.nbt_confirm.specs.Inquiries.{name_port}
use Rattle.nbt_waits.specs.declared.asking.Asking.{Asking}
use Rattle.nbt_waits.specs.Doing.{Done, waits}

-- ---- which are looked at

-- OPCODE of a query, of a refresh, for which RFC 1002 section 4.2.1.1 has two numbers, and of a multi-homed registration, which it doesn't list
abbrev pub query_opcode : ℕ
query_opcode = 0

abbrev pub refresh_opcode : ℕ
refresh_opcode = 8

abbrev pub other_refresh_opcode : ℕ
other_refresh_opcode = 9

abbrev pub multi_homed : ℕ
multi_homed = 15

-- a response to a query, from the port of the name service, while an inquiry is under way
abbrev pub IsHeard : (is_asking : Bool) → Came → Type 0
IsHeard is_asking c = (is_asking ≡ true) × (¬ IsRequest c.flags) × (c.from.port ≡ name_port) × (opcode_of c.flags ≡ query_opcode)

-- a request that came by OPCODE 15, and spells a registration now
abbrev pub IsMultiHomed : Came → (octets : List ℕ) → Type 0
IsMultiHomed c octets = IsRequest c.flags × (opcode_of c.flags ≡ multi_homed) × ((r : Registration) × Spells octets (registration r))

-- the octets have this additional record
abbrev pub HasAdditional : (octets : List ℕ) → RecordValue → Type 0
HasAdditional octets additional = (packet : PacketValue) × (n : ℕ) × PacketIs octets packet n × (packet.additional ≡ Some additional)

-- the entry of a claim is written as a P node writes it: our nodes do
abbrev pub IsByPNode : (octets : List ℕ) → Registration → Type 0
IsByPNode octets r = (additional : RecordValue) × HasAdditional octets additional × (additional.rdata ≡ entry r.kind r.addr)

-- it is for another address than the one that sent it, as from behind a masquerade, or by another kind of node than a P node
abbrev pub IsToBeAsked : (ip : ℕ) → (octets : List ℕ) → Registration → Type 0
IsToBeAsked ip octets r = (r.addr ≢ ip) ⊎ (¬ IsByPNode octets r)

-- a refresh of which the sender is asked first
abbrev pub IsOthersRefresh : Came → (octets : List ℕ) → Type 0
IsOthersRefresh c octets =
    IsRequest c.flags × ((opcode_of c.flags ≡ refresh_opcode) ⊎ (opcode_of c.flags ≡ other_refresh_opcode)) × ((r : Registration) × Spells octets (refresh r) × IsToBeAsked c.from.ip octets r)

-- a datagram that is set aside, and looked at first
abbrev pub IsAside : (is_asking : Bool) → Came → (octets : List ℕ) → Type 0
IsAside is_asking c octets = IsHeard is_asking c ⊎ (IsMultiHomed c octets ⊎ IsOthersRefresh c octets)

-- ---- what becomes of it

-- A datagram that is kept from the server, if there is one: it waits to be looked at, or it comes to the server next.
pub data Kept : Type 0 where
  nothing : Kept
  aside : (came : Came) → (octets : List ℕ) → Kept
  back : (came : Came) → (octets : List ℕ) → Kept

abbrev pub IsLookedAt : Kept → Type 0
IsLookedAt (aside came octets) = Unit {0}
IsLookedAt kept = ⊥

abbrev pub IsBack : Kept → Type 0
IsBack (back came octets) = Unit {0}
IsBack kept = ⊥

-- A claim that came so waits for what its sender says.
pub record LooksFirst (table : TableValue) (now : ℕ) (c : Came) (octets : List ℕ) (old : Asking) (done : Done) : Type 0 where
  pub r : Registration
  pub awaits : Awaits
  pub claims : Claims octets r
  pub asks_first : AsksFirst table now c.from r awaits
  pub done_is : done ≡ waits (request_of c r awaits c.from.ip) old
