-- What a server that asks has beside its port, and what it does with a datagram and with a reply (our profile).
use Rattle.std.specs.Prelude.{◌≡◌, ℕ, ◌≤◌, Bool, true, false, nat_eq, if◌then◌else◌, List, [], ◌∷◌, length, Option, Some, None}
use Rattle.nbt_name.specs.Words.{word_at}
use Rattle.nbt_name.specs.declared.addr.Addr.{Addr}
use Rattle.nbt_packet.specs.Message.{MessageValue, registration}
use Rattle.nbt_packet.specs.Spelling.{Spells}
use Rattle.nbt_packet.specs.Text.{text}
use Rattle.nbt_port.specs.declared.port.Route.{Route}
use Rattle.nbt_confirm.specs.declared.request.Came.{Came}
use Rattle.nbt_confirm.specs.declared.request.Request.{Request}
use Rattle.nbt_confirm.specs.declared.waits.Pending.{Pending}
use Rattle.nbt_waits.specs.declared.asking.Asking.{Asking}
use Rattle.nbt_waits.specs.declared.sending.Reply.{Reply}
use Rattle.nbt_waits.specs.declared.sending.Reply.TheVariants as reply
use Rattle.nbt_waits.specs.Asking.{came_of, claim_of}
use Rattle.nbt_waits.specs.Lapsing.{unasked}
use Rattle.nbt_waits.specs.Looking.{IsAside, IsBack, nothing, aside, back}
use Rattle.nbt_waits.specs.Sending.{Left, leaves, leaves_with}
use Rattle.nbt_asking.specs.declared.desk.Desk.{Desk}

-- nothing has come yet
abbrev pub new_desk : Asking → Desk
new_desk asking = record { asking = asking; at = 0; aside = nothing; last = record { from = record { ip = 0; port = 0 }; local = None; flags = 0 }; quiet = None }

abbrev pub route_of : Came → Route
route_of c = record { peer = c.from; local = c.local }

-- how a datagram came by a route, with these flags before another port changed them
abbrev pub came_by : Route → (flags : ℕ) → Came
came_by from flags = record { from = from.peer; local = from.local; flags = flags }

-- ---- what comes to the server

-- nobody is to have the reply where nobody sent the request
abbrev pub quiet_by : Came → Option Addr → Option Addr
quiet_by c quiet = if nat_eq c.flags unasked then Some c.from else quiet

-- the server is handed what came so
abbrev pub handed : Came → Desk → Desk
handed c old = record old { last = c; quiet = quiet_by c old.quiet }

-- What was looked at comes to the server, or else the text of a registration that it may grant.
pub data ComesBack (old : Desk) : Route → (octets : List ℕ) → Desk → Type 0 where
  looked_at : (c : Came) (octets : List ℕ) → old.aside ≡ back c octets → ComesBack old (route_of c) octets (handed c (record old { aside = nothing }))
  is_granted : (r : Request) (others : List Request) → ¬ IsBack old.aside → old.asking.granted ≡ r ∷ others
      → ComesBack old (route_of (came_of r)) (text (registration (claim_of r))) (handed (came_of r) (record old { asking = record old.asking { granted = others } }))

-- neither is there
abbrev pub HasNothing : Desk → Type 0
HasNothing desk = (¬ IsBack desk.aside) × (desk.asking.granted ≡ [])

-- an inquiry is under way
abbrev pub any_under_way : List Pending → Bool
any_under_way [] = false
any_under_way (p ∷ pending) = true

-- What comes by a route with these flags is set aside, so that nothing came; or the server is handed it.
pub data Passes (old : Desk) (flags : ℕ) : Option Route → (octets : List ℕ) → Option Route → (out : List ℕ) → Desk → Type 0 where
  nothing_came : (octets : List ℕ) → Passes old flags None octets None octets old
  sets_aside : (from : Route) (octets : List ℕ) → IsAside (any_under_way old.asking.waits.pending) (came_by from flags) octets
      → Passes old flags (Some from) octets None [] (record old { aside = aside (came_by from flags) octets })
  hands_on : (from : Route) (octets : List ℕ) → ¬ IsAside (any_under_way old.asking.waits.pending) (came_by from flags) octets
      → Passes old flags (Some from) octets (Some from) octets (record old { last = came_by from flags })

-- ---- what leaves of a reply

-- it is the reply to a request that nobody sent, which has the id 0
abbrev pub IsQuiet : Desk → Route → (octets : List ℕ) → Type 0
IsQuiet desk to octets = (desk.quiet ≡ Some to.peer) × (2 ≤ length octets) × (word_at octets 0 ≡ 0)

-- what leaves, by what a call says of a reply, and left
abbrev pub octets_by : Reply → (octets out : List ℕ) → Option (List ℕ)
octets_by reply.HeldBack octets out = None
octets_by reply.AsItIs octets out = Some octets
octets_by reply.Changed octets out = Some out

abbrev pub with_left : Left → Desk → Desk
with_left left old = record old { asking = record old.asking { further = left.further } }

-- what leaves of it is by the message that the octets spell; they leave as they are where they spell none
pub record LeavesAs (desk : Desk) (to : Route) (octets : List ℕ) (left : Left) : Type 0 where
  pub by_message : (m : MessageValue) → Spells octets m → left ≡ leaves desk.at to.peer.ip octets desk.asking.further m
  pub by_nothing : ((m : MessageValue) → ¬ Spells octets m) → left ≡ leaves_with octets desk.asking.further

-- What leaves of a reply, if something does: nothing where nobody sent the request.
pub data Replies (old : Desk) (to : Route) (octets : List ℕ) : Option (List ℕ) → Desk → Type 0 where
  is_quiet : IsQuiet old to octets → Replies old to octets None (record old { quiet = None })
  leaves_as : (left : Left) → ¬ IsQuiet old to octets → LeavesAs old to octets left → Replies old to octets left.octets (with_left left old)
