-- Ports and clocks over memory, which tell what they are given and what is done with them (our profile).
use Rattle.std.specs.Prelude.{◌≡◌, ℕ, ◌+◌, ◌-◌, List, [], ◌∷◌, ◌++◌, map, take, Option, Some, None, Ok}
use Rattle.nbt_port.specs.declared.memory.Datagram.{Datagram}
use Rattle.nbt_port.specs.declared.port.Route.{Route}
use Rattle.nbt_port.specs.Numbers.{octets_most}
use Rattle.nbt_port.specs.PortCalls.{PortCall, nothing_came, came, receive_failed, sent, send_failed, receiving, one_more}

-- ---- a port

-- a datagram without where its octets lie in memory
pub record DatagramValue : Type 0 where
  pub route : Route
  pub octets : List ℕ

abbrev pub value_of : Datagram → DatagramValue
value_of d = record { route = d.route; octets = d.octets.items }

abbrev pub values_of : List Datagram → List DatagramValue
values_of datagrams = map value_of datagrams

-- What is still to come, one datagram or nothing a receive; what was sent; how many calls have failed, and after how many
-- calls more one is to fail, if one is.
pub record MemoryValue : Type 0 where
  pub incoming : List (Option Datagram)
  pub sent : List DatagramValue
  pub failures : ℕ
  pub fails_after : Option ℕ

-- the next call is to fail
abbrev pub IsToFail : Option ℕ → Type 0
IsToFail after = after ≡ Some 0

-- one call later
abbrev pub one_later : Option ℕ → Option ℕ
one_later None = None
one_later (Some calls) = Some (calls - 1)

abbrev pub to : Route → List ℕ → DatagramValue
to route octets = record { route = route; octets = octets }

-- a call that failed since it was to, which no other is then
abbrev pub failed : MemoryValue → MemoryValue
failed port = record port { failures = one_more port.failures; fails_after = None }

-- A receive hands out the first of what is to come, at most the first 2,048 octets of it: a datagram, or nothing, as at the end.
pub data HandsOut : (incoming : List (Option Datagram)) → (found : Option Route) → (octets : List ℕ) → (rest : List (Option Datagram)) → Type 0 where
  datagram : (d : Datagram) (rest : List (Option Datagram)) → HandsOut (Some d ∷ rest) (Some d.route) (take octets_most d.octets.items) rest
  nothing : (rest : List (Option Datagram)) → HandsOut (None ∷ rest) None [] rest
  at_end : HandsOut [] None [] []

-- What is sent goes last among what was sent. A call fails where it is to, and then nothing is handed out or kept; a send
-- fails also where memory was refused.
pub data MemoryDoes (old : MemoryValue) : PortCall → MemoryValue → Type 0 where
  receives : (found : Option Route) (octets : List ℕ) (rest : List (Option Datagram)) → ¬ IsToFail old.fails_after → HandsOut old.incoming found octets rest
      → MemoryDoes old (receiving (Ok found) octets) (record old { incoming = rest; fails_after = one_later old.fails_after })
  sends : (route : Route) (octets : List ℕ) → ¬ IsToFail old.fails_after → MemoryDoes old (sent route octets) (record old { sent = old.sent ++ to route octets ∷ []; fails_after = one_later old.fails_after })
  fails_to_receive : IsToFail old.fails_after → MemoryDoes old receive_failed (failed old)
  fails_to_send : (route : Route) (octets : List ℕ) → IsToFail old.fails_after → MemoryDoes old (send_failed route octets) (failed old)
  has_no_memory : (route : Route) (octets : List ℕ) → ¬ IsToFail old.fails_after → MemoryDoes old (send_failed route octets) (record old { failures = one_more old.failures; fails_after = one_later old.fails_after })

-- ---- what the calls of a port come to

-- what was sent, in order
abbrev pub sent_in : List PortCall → List DatagramValue
sent_in [] = []
sent_in (sent route octets ∷ acts) = to route octets ∷ sent_in acts
sent_in (_ ∷ acts) = sent_in acts

-- what came, in order
abbrev pub came_in : List PortCall → List DatagramValue
came_in [] = []
came_in (came from octets ∷ acts) = to from octets ∷ came_in acts
came_in (_ ∷ acts) = came_in acts

-- the datagrams among what is handed out, each with its first 2,048 octets
abbrev pub datagrams_in : List (Option Datagram) → List DatagramValue
datagrams_in [] = []
datagrams_in (None ∷ rest) = datagrams_in rest
datagrams_in (Some d ∷ rest) = to d.route (take octets_most d.octets.items) ∷ datagrams_in rest

-- how many receives handed out something or nothing
abbrev pub received_in : List PortCall → ℕ
received_in [] = 0
received_in (nothing_came ∷ acts) = 1 + received_in acts
received_in (came from octets ∷ acts) = 1 + received_in acts
received_in (_ ∷ acts) = received_in acts

-- how many calls failed
abbrev pub failed_in : List PortCall → ℕ
failed_in [] = 0
failed_in (receive_failed ∷ acts) = 1 + failed_in acts
failed_in (send_failed route octets ∷ acts) = 1 + failed_in acts
failed_in (_ ∷ acts) = failed_in acts

-- ---- a clock

-- the moments still to be told, and the last one told, at first 0
pub record ToldValue : Type 0 where
  pub left : List ℕ
  pub last : ℕ

-- A reading tells the first of what is left. Where none is left it tells the last one again.
pub data Tells (old : ToldValue) : (moment : ℕ) → ToldValue → Type 0 where
  tells_next : (moment : ℕ) (rest : List ℕ) → old.left ≡ moment ∷ rest → Tells old moment (record { left = rest; last = moment })
  tells_again : old.left ≡ [] → Tells old old.last old
