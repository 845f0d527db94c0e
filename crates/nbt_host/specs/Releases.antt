-- A name that is given back: its request, how often it is sent, and its reply (RFC 1002 sections 4.2.9 to 4.2.11).
use Rattle.std.specs.Prelude.{ℕ, ◌+◌, ◌%◌, ◌^◌, Bool, ◌&&◌, not, nat_eq, is_none, if◌then◌else◌, List, [], ◌∷◌, Option, Some, None}
use Rattle.nbt_name.specs.Wire.{same_name}
use Rattle.nbt_packet.specs.Message.{MessageValue, release, released}
use Rattle.nbt_node.specs.Transaction.{next_due, is_next, is_over}
use Rattle.nbt_client.specs.declared.turning.Want.{Want}
use Rattle.nbt_host.specs.declared.release.Release.{Release}

-- a name of which no request was sent, with an id from a number
abbrev pub fresh : (number : ℕ) → Want → Release
fresh number want = record { name = want.name; kind = want.kind; id = number % 2 ^ 16; tries = 0; due = 0; rcode = None }

-- the names of a list, with ids that follow each other
abbrev pub fresh_all : (number : ℕ) → List Want → List Release
fresh_all number [] = []
fresh_all number (want ∷ wants) = fresh number want ∷ fresh_all (number + 1) wants

-- the request of a node at this address
abbrev pub request : (own : ℕ) → Release → MessageValue
request own r = release r.id r.name r.kind own

-- No reply came, and it is to be sent, for the first time or once more.
abbrev pub is_due : (now : ℕ) → Release → Bool
is_due now r = is_none r.rcode && is_next now r.tries r.due

-- No reply came, and the time of its last sending isn't over.
abbrev pub is_open : (now : ℕ) → Release → Bool
is_open now r = is_none r.rcode && not (is_over now r.tries r.due)

-- the same once its request was sent
abbrev pub sent_at : (now : ℕ) → Release → Release
sent_at now r = record r { tries = r.tries + 1; due = next_due now }

-- A reply of that id for that name is for it, and the first one counts.
abbrev pub is_for : (id : ℕ) → Release → Bool
is_for id r = nat_eq id r.id && is_none r.rcode

abbrev pub answered : Option MessageValue → Release → Release
answered (Some (released id rcode name kind addr)) r = if is_for id r && same_name name r.name then record r { rcode = Some rcode } else r
answered message r = r
