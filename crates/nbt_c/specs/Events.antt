-- What a node reports to a program in C, and what it sends back there.
use Rattle.std.specs.Prelude.{ℕ, Bool, false, List, [], length, replicate, Option, Some, None}
use Rattle.nbt_name.specs.Wire.{NameValue}
use Rattle.nbt_packet.specs.Message.{MessageValue, registered, released, not_found}
use Rattle.nbt_packet.specs.Spelling.{name_in}
use Rattle.nbt_node.specs.Moves.{Told, nothing, replied, is_granted, is_renewed, is_refused, is_lost, is_freed, waits, finds, finds_none, lists}
use Rattle.nbt_c.specs.declared.event.CEvent.{CEvent}
use Rattle.nbt_c.specs.declared.name.CName.{CName}
use Rattle.nbt_c.specs.Names.{filled_scope, stored}

-- the octets that are sent back, if any
abbrev pub octets_back : Option (List ℕ) → List ℕ
octets_back None = []
octets_back (Some octets) = octets

-- what is reported where something is sent back: that it is
abbrev pub reported : Told → (back : Option (List ℕ)) → Told
reported told None = told
reported told (Some octets) = replied

-- ---- what a datagram's message says beside it

-- the RCODE of the server's reply (RFC 1002 sections 4.2.6, 4.2.11 and 4.2.14)
abbrev pub rcode_in : Option MessageValue → ℕ
rcode_in (Some (registered rcode r)) = rcode
rcode_in (Some (released id rcode name kind addr)) = rcode
rcode_in (Some (not_found id rcode name)) = rcode
rcode_in message = 0

-- the name that it is about
abbrev pub about : Option MessageValue → Option NameValue
about None = None
about (Some message) = name_in message

-- no name, as C holds it: zeros
abbrev pub stored_if : Option NameValue → CName
stored_if None = record { octets = replicate 16 0; scope_size = 0; scope = filled_scope [] }
stored_if (Some name) = stored name

-- ---- events

-- an event of a kind, with what its kind names, and with what a message says; all else is 0
abbrev pub event_with : (kind : ℕ) (cut : Bool) (seconds size : ℕ) → Option MessageValue → CEvent
event_with kind cut seconds size message = record { kind = kind; rcode = rcode_in message; cut = cut; seconds = seconds; size = size; name = stored_if (about message) }

abbrev pub event_for : Told → Option MessageValue → CEvent
event_for nothing message = event_with 0 false 0 0 None
event_for replied message = event_with 1 false 0 0 message
event_for (is_granted seconds) message = event_with 2 false seconds 0 message
event_for (is_renewed seconds) message = event_with 3 false seconds 0 message
event_for (is_refused rcode) message = event_with 4 false 0 0 message
event_for is_lost message = event_with 5 false 0 0 message
event_for (is_freed rcode) message = event_with 6 false 0 0 message
event_for waits message = event_with 7 false 0 0 message
event_for (finds entries cut) message = event_with 8 cut 0 (length entries) message
event_for finds_none message = event_with 9 false 0 0 message
event_for (lists names) message = event_with 10 false 0 (length names) message

-- the entries or names of one
abbrev pub lent_by : Told → List ℕ
lent_by (finds entries cut) = entries
lent_by (lists names) = names
lent_by told = []
