-- What a host does in a turn over a port and a clock: a node that is to hold the names of a list (our profile).
use Rattle.std.specs.Prelude.{◌≡◌, ℕ, ◌+◌, ◌%◌, ◌<◌, Bool, true, false, if◌then◌else◌, List, [], ◌∷◌, ◌++◌, map, Option, Some, None, Ok}
use Rattle.nbt_name.specs.declared.addr.Addr.{Addr}
use Rattle.nbt_name.specs.Wire.{NameValue}
use Rattle.nbt_lease.specs.Config.{ConfigValue}
use Rattle.nbt_packet.specs.Message.{MessageValue}
use Rattle.nbt_node.specs.declared.fault.AskFault.{AskFault}
use Rattle.nbt_node.specs.declared.fault.ReleaseFault.{ReleaseFault}
use Rattle.nbt_node.specs.Node.{NodeValue}
use Rattle.nbt_node.specs.Moves.{give_back, Told}
use Rattle.nbt_node.specs.Calls.{refreshing_soon, ask_refusal, release_refusal, Sends, started_from}
use Rattle.nbt_node.specs.Datagrams.{Handles, Says}
use Rattle.nbt_port.specs.declared.port.Route.{Route}
use Rattle.nbt_port.specs.PortCalls.{PortCall, nothing_came, came, receive_failed, sent, send_failed, receiving, route_to}
use Rattle.nbt_client.specs.Turning.{AsksFor, PollsAll, BreaksPolls}
use Rattle.nbt_host.specs.declared.goal.Goal.{Goal}
use Rattle.nbt_host.specs.declared.goal.Stage.{Stage}
use Rattle.nbt_host.specs.declared.goal.Stage.TheVariants.{Wanted}
use Rattle.nbt_host.specs.declared.news.Notice.{Notice}
use Rattle.nbt_host.specs.declared.watching.Look.{Look}
use Rattle.nbt_host.specs.Goals.{anew, may_ask, seen, heard_by}
use Rattle.nbt_node.specs.Answering.{sent_back}
use Rattle.nbt_host.specs.Noticing.{notice_of, doubted}

-- what is sent by a route, if anything
abbrev pub sending_to : Route → Option (List ℕ) → List PortCall
sending_to to None = []
sending_to to (Some octets) = sent to octets ∷ []

-- ---- the requests

abbrev pub is_wanted : Stage → Bool
is_wanted Wanted = true
is_wanted stage = false

-- The request about one name, if any. A name that is wanted is asked for where its time has come; another is given back.
-- What the node refuses is passed over.
pub data Requests (now : ℕ) (old : NodeValue) (goal : Goal) : Option (List ℕ) → NodeValue → Type 0 where
  asks : (octets : List ℕ) (new : NodeValue) → is_wanted goal.stage ≡ true → may_ask now goal.refusal ≡ true → AsksFor now goal.want old octets new → Requests now old goal (Some octets) new
  may_not_ask : (fault : AskFault) → is_wanted goal.stage ≡ true → may_ask now goal.refusal ≡ true → ask_refusal old now goal.want.name ≡ Some fault → Requests now old goal None old
  backs_off : is_wanted goal.stage ≡ true → may_ask now goal.refusal ≡ false → Requests now old goal None old
  gives_back : (octets : List ℕ) (new : NodeValue) → is_wanted goal.stage ≡ false → release_refusal old now goal.want.name ≡ None → Sends old now goal.want.name give_back new octets
      → Requests now old goal (Some octets) new
  may_not_give_back : (fault : ReleaseFault) → is_wanted goal.stage ≡ false → release_refusal old now goal.want.name ≡ Some fault → Requests now old goal None old

-- Name after name, in the list's order, each once; each request is sent to the server.
pub data RequestsAll (server : Addr) (now : ℕ) (old : NodeValue) : List Goal → List PortCall → NodeValue → Type 0 where
  of_none : RequestsAll server now old [] [] old
  of_next : (goals : List Goal) (goal : Goal) (acts : List PortCall) (request : Option (List ℕ)) (mid new : NodeValue) → RequestsAll server now old goals acts mid → Requests now mid goal request new
      → RequestsAll server now old (goals ++ goal ∷ []) (acts ++ sending_to (route_to server) request) new

-- They go on until the sending of one fails.
pub data BreaksRequests (server : Addr) (now : ℕ) (old : NodeValue) : List Goal → List PortCall → NodeValue → Type 0 where
  at_request : (goals rest : List Goal) (goal : Goal) (acts : List PortCall) (octets : List ℕ) (mid new : NodeValue) → RequestsAll server now old goals acts mid → Requests now mid goal (Some octets) new
      → BreaksRequests server now old (goals ++ goal ∷ rest) (acts ++ send_failed (route_to server) octets ∷ []) new

-- ---- what is heard

-- The hold of a name that is doubted is refreshed as soon as it may be, and ends no earlier and no later than before.
abbrev pub doubting : NodeValue → Option NameValue → NodeValue
doubting node None = node
doubting node (Some name) = refreshing_soon node name

-- The node takes what came, if anything, at a moment that doesn't go back, and what there is to say is sent by the datagram's own
-- route. Then it doubts the name of which the server said unasked that it isn't held. A datagram that the node refuses since the
-- clock went back is passed over.
pub data HostHears (server : Addr) (now : ℕ) (old : NodeValue) : List PortCall → Option Notice → NodeValue → Type 0 where
  hears_nothing : HostHears server now old (nothing_came ∷ []) None old
  hears_back : (from : Route) (octets : List ℕ) → now < old.last → HostHears server now old (came from octets ∷ []) None old
  hears : (from : Route) (octets reply : List ℕ) (message : Option MessageValue) (told : Told) (new : NodeValue) → Handles old now from.peer octets new told reply → Says octets message
      → HostHears server now old (came from octets ∷ sending_to from (sent_back new now message told reply)) (notice_of server from.peer message told) (doubting new (doubted server from.peer message told))

-- What there is to say is lost.
pub data LosesReply (now : ℕ) (old : NodeValue) : List PortCall → NodeValue → Type 0 where
  loses_reply : (from : Route) (octets reply lost : List ℕ) (message : Option MessageValue) (told : Told) (new : NodeValue) → Handles old now from.peer octets new told reply → Says octets message
      → sent_back new now message told reply ≡ Some lost → LosesReply now old (came from octets ∷ send_failed from lost ∷ []) new

-- ---- a host

-- a host's names and its node
pub record HostValue : Type 0 where
  pub goals : List Goal
  pub node : NodeValue

-- what stays of it: how many slots its node has, its server, and the limits
pub record Terms : Type 0 where
  pub slots : ℕ
  pub server : Addr
  pub config : ConfigValue

-- The id of the first request of a life. The salt is a number that a host chose at its start, and that nobody else can guess. Both clocks go
-- on between two lives of one host, by 2,000 a second together, and a life needs a few ids a second: so a life's ids differ from those
-- of the life before, unless it starts a multiple of 32,768 ms after it, or a clock was set.
abbrev pub first_id : Look → ℕ
first_id look = (look.at + look.day + look.salt) % 65536

-- a host whose machine crashed and started at a look: the node knows nothing, and rests
abbrev pub started_again : Terms → Look → HostValue → HostValue
started_again t look host = record { goals = map anew host.goals; node = started_from t.slots host.node.addr t.server t.config look.at (first_id look) }

-- What a host is after a look at the clocks. Where the machine slept it starts again at that moment.
abbrev pub woken : Terms → Look → HostValue → HostValue
woken t look host = if look.slept then started_again t look host else host

-- a look at each name
abbrev pub seen_all : (now : ℕ) → HostValue → HostValue
seen_all now host = record host { goals = map (seen host.node now) host.goals }

-- ---- a turn

-- What is made of what a receive was, at a look after it. Where the machine slept nothing is made of it.
pub data HearsAfter (t : Terms) (look : Look) (old : HostValue) : List PortCall → HostValue → Type 0 where
  sleeps : (found : Option Route) (octets : List ℕ) → look.slept ≡ true → HearsAfter t look old (receiving (Ok found) octets ∷ []) (woken t look old)
  wakes : (hearing : List PortCall) (notice : Option Notice) (new : NodeValue) → look.slept ≡ false → HostHears t.server look.at old.node hearing notice new
      → HearsAfter t look old hearing (record { goals = map (heard_by t.config new look.at notice) old.goals; node = new })

-- A look at the clocks, and then at the names; the requests and the polls; one receive, and a look at the clocks after it.
pub record HostTurn (t : Terms) (old : HostValue) (acts : List PortCall) (looks : List Look) (new : HostValue) : Type 0 where
  pub first : Look
  pub second : Look
  pub begun : HostValue
  pub requesting : List PortCall
  pub polling : List PortCall
  pub hearing : List PortCall
  pub requested : NodeValue
  pub polled : NodeValue
  pub begins : begun ≡ seen_all first.at (woken t first old)
  pub requests : RequestsAll t.server first.at begun.node begun.goals requesting requested
  pub polls : PollsAll first.at requested polling polled
  pub hears : HearsAfter t second (record begun { node = polled }) hearing new
  pub acts_are : acts ≡ requesting ++ (polling ++ hearing)
  pub looks_are : looks ≡ first ∷ second ∷ []

-- The calls after the first looks of a turn in which the device fails, and the looks at the clocks after those: the node is as
-- after the call of it that made the sending, or as it was before the receive.
pub data BreaksCalls (server : Addr) (first : ℕ) (goals : List Goal) (old : NodeValue) : List PortCall → List Look → NodeValue → Type 0 where
  at_requests : (requesting : List PortCall) (new : NodeValue) → BreaksRequests server first old goals requesting new → BreaksCalls server first goals old requesting [] new
  at_polls : (requesting polling : List PortCall) (requested new : NodeValue) → RequestsAll server first old goals requesting requested → BreaksPolls first requested polling new
      → BreaksCalls server first goals old (requesting ++ polling) [] new
  at_receive : (requesting polling : List PortCall) (requested new : NodeValue) → RequestsAll server first old goals requesting requested → PollsAll first requested polling new
      → BreaksCalls server first goals old (requesting ++ (polling ++ receive_failed ∷ [])) [] new
  at_reply : (second : Look) (requesting polling hearing : List PortCall) (requested polled new : NodeValue) → RequestsAll server first old goals requesting requested
      → PollsAll first requested polling polled → second.slept ≡ false → LosesReply second.at polled hearing new
      → BreaksCalls server first goals old (requesting ++ (polling ++ hearing)) (second ∷ []) new

-- Such a turn: nothing else of it is done than the first looks and these calls.
pub record HostBreaks (t : Terms) (old : HostValue) (acts : List PortCall) (looks : List Look) (new : HostValue) : Type 0 where
  pub first : Look
  pub later : List Look
  pub begun : HostValue
  pub begins : begun ≡ seen_all first.at (woken t first old)
  pub calls : BreaksCalls t.server first.at begun.goals begun.node acts later new.node
  pub looks_are : looks ≡ first ∷ later
  pub goals_are : new.goals ≡ begun.goals
