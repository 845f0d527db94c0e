-- What leaves of a server's reply (our profile).
use Rattle.std.specs.Prelude.{ℕ, ◌&&◌, nat_eq, Bool, false, if◌then◌else◌, List, [], ◌∷◌, ◌++◌, take, length, Option, Some, None}
use Rattle.std.specs.List.{flat_map, list_any}
use Rattle.nbt_name.specs.Wire.{NameValue}
use Rattle.nbt_name.specs.Words.{long_at}
use Rattle.nbt_packet.specs.Message.{MessageValue, Kind, Unique, kind_in, found, registered, released}
use Rattle.nbt_packet.specs.Text.{entry, text}
use Rattle.nbt_server.specs.Serving.{active_error}
use Rattle.nbt_confirm.specs.declared.further.Further.{Further}
use Rattle.nbt_confirm.specs.Further.{is_at, listed_at, name_most, without}
use Rattle.nbt_confirm.specs.Inquiries.{same_kind}
use Rattle.nbt_waits.specs.declared.sending.Reply.{Reply}
use Rattle.nbt_waits.specs.declared.sending.Reply.TheVariants as is

-- The octets that leave, if any do, and the further addresses then.
pub record Left : Type 0 where
  pub octets : Option (List ℕ)
  pub further : List Further

abbrev pub held_back : List Further → Left
held_back further = record { octets = None; further = further }

abbrev pub leaves_with : (octets : List ℕ) → List Further → Left
leaves_with octets further = record { octets = Some octets; further = further }

-- what leaves by what a call says of a reply, and left
abbrev pub left_by : Reply → (octets out : List ℕ) → List Further → Left
left_by is.HeldBack octets out further = held_back further
left_by is.AsItIs octets out further = leaves_with octets further
left_by is.Changed octets out further = leaves_with out further

-- another has the name, and it is a unique name
abbrev pub refuses_unique : (rcode : ℕ) → Kind → Bool
refuses_unique rcode kind = nat_eq rcode active_error && same_kind kind Unique

-- another has the name, of which the address that released it is a further one
abbrev pub refuses_release : (rcode ip : ℕ) → NameValue → (addr : ℕ) → List Further → Bool
refuses_release rcode ip name addr further = nat_eq rcode active_error && nat_eq addr ip && list_any (is_at name addr) further

-- the address of a response's one entry, where that is a unique name's
abbrev pub holder_in : (entries : List ℕ) → Option ℕ
holder_in entries = if nat_eq (length entries) 6 && same_kind (kind_in entries) Unique then Some (long_at entries 2) else None

-- the further addresses that stand behind the holder's: a name has 16 at most, so all fit in a datagram
abbrev pub behind : Option ℕ → (now : ℕ) → NameValue → List Further → List ℕ
behind None now name further = []
behind (Some holder) now name further = take name_most (listed_at now name holder further)

abbrev pub entries_of : List ℕ → List ℕ
entries_of addrs = flat_map (λ addr. entry Unique addr) addrs

-- a response with the entries of these addresses behind its own, or as it is where there are none
abbrev pub lists_more : List ℕ → (id : ℕ) → NameValue → (ttl : ℕ) → (entries octets : List ℕ) → List Further → Left
lists_more [] id name ttl entries octets further = leaves_with octets further
lists_more (addr ∷ more) id name ttl entries octets further = leaves_with (text (found id name ttl (entries ++ entries_of (addr ∷ more)) false)) further

-- What leaves of a reply to the address `ip`, by the message that its octets spell. A refusal of a unique name since another has it is held back. A
-- further address's release is confirmed, though the server refuses it, and it ends. The holder's address is followed by the further addresses of
-- its machine. Every other reply leaves as it is.
abbrev pub leaves : (now ip : ℕ) → (octets : List ℕ) → List Further → MessageValue → Left
leaves now ip octets further (registered rcode r) = if refuses_unique rcode r.kind then held_back further else leaves_with octets further
leaves now ip octets further (released id rcode name kind addr) =
    if refuses_release rcode ip name addr further then leaves_with (text (released id 0 name kind addr)) (without name addr further) else leaves_with octets further
leaves now ip octets further (found id name ttl entries false) = lists_more (behind (holder_in entries) now name further) id name ttl entries octets further
leaves now ip octets further other = leaves_with octets further
