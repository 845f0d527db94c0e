-- One step of the world: what an event makes of it, a line for each outcome (our profile).
use Rattle.std.specs.Prelude.{◌≡◌, ◌≢◌, ℕ, ◌↔◌, IsTrue, zero, suc, List, [], ◌∷◌, ◌++◌, length, slice_get, slice_index, Option, Some, None, ◌⊎◌}
use Rattle.std.specs.Global.{Vec}
use Rattle.nbt_name.specs.declared.addr.Addr.{Addr}
use Rattle.nbt_name.specs.declared.addr.Kind.{Kind}
use Rattle.nbt_name.specs.Wire.{NameValue}
use Rattle.nbt_packet.specs.Message.{MessageValue, registration, overwrite, refresh, release, registered}
use Rattle.nbt_packet.specs.Text.{text}
use Rattle.nbt_packet.specs.Spelling.{Spells}
use Rattle.nbt_lease.specs.Config.{ConfigValue}
use Rattle.nbt_server.specs.Serving.{ServerValue}
use Rattle.nbt_server.specs.Calls.{ServerStarts, ServerResumes, ServerTakes, ServerForgets}
use Rattle.nbt_node.specs.declared.fault.AskFault.{AskFault}
use Rattle.nbt_node.specs.declared.fault.ReleaseFault.{ReleaseFault}
use Rattle.nbt_node.specs.declared.fault.LookupFault.{LookupFault}
use Rattle.nbt_node.specs.declared.lookup.Wanted.TheVariants.{Entries, Names}
use Rattle.nbt_node.specs.Numbers.{ask_fault_number, release_fault_number, lookup_fault_number}
use Rattle.nbt_node.specs.Node.{NodeValue, slots_most}
use Rattle.nbt_node.specs.Moves.{ask, give_back, Told}
use Rattle.nbt_node.specs.Calls.{started, ask_refusal, release_refusal, resolve_refusal, status_refusal, Sends, Opens, Polls}
use Rattle.nbt_node.specs.Datagrams.{Handles}
use Rattle.nbt_world.specs.declared.node_call.CallOutcome.{CallOutcome}
use Rattle.nbt_world.specs.declared.node_call.CallOutcome.TheVariants as g
use Rattle.nbt_world.specs.declared.ends.Ends.{Ends}
use Rattle.nbt_world.specs.declared.ends.Taken.{Taken}
use Rattle.nbt_world.specs.declared.ends.Taken.TheVariants as t
use Rattle.nbt_world.specs.declared.network.Datagram.{Datagram}
use Rattle.nbt_world.specs.declared.event.Event.{Event}
use Rattle.nbt_world.specs.declared.event.Event.TheVariants.{Tick, Advance, Start, Crash, Resume, Ask, Release, Resolve, NameStatus, Poll, Deliver, Stranger, Beside}
use Rattle.nbt_world.specs.declared.event.Outcome.{Outcome}
use Rattle.nbt_world.specs.declared.event.Outcome.TheVariants as o
use Rattle.nbt_world.specs.Drift.{reading, later, least_of, numbers_of, lesser, IsAllowed, IsAllowedTimely}
use Rattle.nbt_world.specs.World.{WorldValue, addr_of, IsEnd, node_of, IsOfEnd, with_server, with_node, datagram, IsDeliverable}

-- ---- what a node does at an event of its own

-- what a call gives: nothing, a refusal with its number, or octets for an end
pub data CallOutcomeValue : Type 0 where
  nothing : CallOutcomeValue
  refusal : (number : ℕ) → CallOutcomeValue
  octets_to : Addr → List ℕ → CallOutcomeValue

abbrev pub given_of : CallOutcome → List ℕ → CallOutcomeValue
given_of g.Nothing octets = nothing
given_of (g.Refusal number) octets = refusal number
given_of (g.To to) octets = octets_to to octets

-- the number of the node that is to do something
abbrev pub number_in : Event → Option ℕ
number_in (Ask number name kind ttl) = Some number
number_in (Release number name) = Some number
number_in (Resolve number name) = Some number
number_in (NameStatus number to name) = Some number
number_in (Poll number) = Some number
number_in _ = None

pub data NodeDoes (old : NodeValue) (now : ℕ) : Event → NodeValue → CallOutcomeValue → Type 0 where
  asks : (number : ℕ) (name : NameValue) (kind : Kind) (ttl : ℕ) (new : NodeValue) (octets : List ℕ) → ask_refusal old now name ≡ None → Sends old now name (ask kind ttl) new octets
      → NodeDoes old now (Ask number name kind ttl) new (octets_to old.server octets)
  ask_refused : (number : ℕ) (name : NameValue) (kind : Kind) (ttl : ℕ) (fault : AskFault) → ask_refusal old now name ≡ Some fault
      → NodeDoes old now (Ask number name kind ttl) old (refusal (ask_fault_number fault))
  gives_back : (number : ℕ) (name : NameValue) (new : NodeValue) (octets : List ℕ) → release_refusal old now name ≡ None → Sends old now name give_back new octets
      → NodeDoes old now (Release number name) new (octets_to old.server octets)
  release_refused : (number : ℕ) (name : NameValue) (fault : ReleaseFault) → release_refusal old now name ≡ Some fault
      → NodeDoes old now (Release number name) old (refusal (release_fault_number fault))
  resolves : (number : ℕ) (name : NameValue) (new : NodeValue) (octets : List ℕ) → resolve_refusal old now name ≡ None → Opens old now name old.server Entries new octets
      → NodeDoes old now (Resolve number name) new (octets_to old.server octets)
  resolve_refused : (number : ℕ) (name : NameValue) (fault : LookupFault) → resolve_refusal old now name ≡ Some fault
      → NodeDoes old now (Resolve number name) old (refusal (lookup_fault_number fault))
  asks_status : (number : ℕ) (to : Addr) (name : NameValue) (new : NodeValue) (octets : List ℕ) → status_refusal old now ≡ None → Opens old now name to Names new octets
      → NodeDoes old now (NameStatus number to name) new (octets_to to octets)
  status_refused : (number : ℕ) (to : Addr) (name : NameValue) (fault : LookupFault) → status_refusal old now ≡ Some fault
      → NodeDoes old now (NameStatus number to name) old (refusal (lookup_fault_number fault))
  polls : (number : ℕ) (to : Addr) (new : NodeValue) (octets : List ℕ) → Polls old now new (Some to) octets → NodeDoes old now (Poll number) new (octets_to to octets)
  polls_nothing : (number : ℕ) (new : NodeValue) (octets : List ℕ) → Polls old now new None octets → NodeDoes old now (Poll number) new nothing

-- ---- what an end does: it starts, crashes, and takes a datagram

-- the end of this number is there and down, and is up
abbrev pub IsDown : Ends → ℕ → Type 0
IsDown ends zero = ends.server ≡ None
IsDown ends (suc index) = (addr : Addr) × (addr_of ends (suc index) ≡ Some addr) × (node_of ends (suc index) ≡ None)

abbrev pub IsUp : Ends → ℕ → Type 0
IsUp ends zero = (server : ServerValue) × (ends.server ≡ Some server)
IsUp ends (suc index) = (node : NodeValue) × (node_of ends (suc index) ≡ Some node)

-- an end that was down starts, and knows nothing
pub data Starts (config : ConfigValue) (now : ℕ) (old : Ends) : ℕ → Ends → Type 0 where
  server_starts : (server : ServerValue) → old.server ≡ None → ServerStarts config now server → Starts config now old 0 (with_server old (Some server) None)
  node_starts : (index : ℕ) (addr : Addr) → addr_of old (suc index) ≡ Some addr → node_of old (suc index) ≡ None
      → Starts config now old (suc index) (with_node old (suc index) (Some (started slots_most addr old.server_addr config now)))

-- An end that was up is down. What the server was is kept, and of a node nothing is.
pub data Crashes (old : Ends) : ℕ → Ends → Type 0 where
  server_crashes : (server : ServerValue) → old.server ≡ Some server → Crashes old 0 (with_server old None (Some server))
  node_crashes : (index : ℕ) (node : NodeValue) → node_of old (suc index) ≡ Some node → Crashes old (suc index) (with_node old (suc index) None)

-- a server that crashed resumes
pub data Resumes (now : ℕ) (old : Ends) : Ends → Type 0 where
  server_resumes : (was server : ServerValue) → old.server ≡ None → old.crashed ≡ Some was → ServerResumes was now server → Resumes now old (with_server old (Some server) None)

-- the server is up, or never was
abbrev pub CannotResume : Ends → Type 0
CannotResume ends = IsUp ends 0 ⊎ (ends.crashed ≡ None)

-- what becomes of a datagram at an end: the end is down, has no memory for it, or takes it, with a reply or none
pub data TakenValue : Type 0 where
  is_down : TakenValue
  is_lost : TakenValue
  takes : Option MessageValue → TakenValue

pub data ServerDoes (now : ℕ) (old : ServerValue) (ip : ℕ) (octets : List ℕ) : TakenValue → ServerValue → Type 0 where
  server_takes : (reply : Option MessageValue) (new : ServerValue) → ServerTakes old now ip octets reply new → ServerDoes now old ip octets (takes reply) new
  server_forgets : (new : ServerValue) → ServerForgets old now ip octets new → ServerDoes now old ip octets is_lost new

pub record NodeHandles (now : ℕ) (old : NodeValue) (from : Addr) (octets : List ℕ) (reply : Option MessageValue) (new : NodeValue) : Type 0 where
  pub told : Told
  pub out : List ℕ
  pub handles : Handles old now from octets new told out
  pub sent_is : handles.sent ≡ reply

pub data EndTakes (now : ℕ) (old : Ends) (from : Addr) (octets : List ℕ) : ℕ → TakenValue → Ends → Type 0 where
  finds_down : (number : ℕ) → IsDown old number → EndTakes now old from octets number is_down old
  by_server : (server new : ServerValue) (taken : TakenValue) → old.server ≡ Some server → ServerDoes now server from.ip octets taken new
      → EndTakes now old from octets 0 taken (with_server old (Some new) old.crashed)
  by_node : (index : ℕ) (node new : NodeValue) (reply : Option MessageValue) → node_of old (suc index) ≡ Some node → NodeHandles now node from octets reply new
      → EndTakes now old from octets (suc index) (takes reply) (with_node old (suc index) (Some new))

-- how the code says it, the octets of a reply being those in its buffer
abbrev pub IsTaken : Taken → List ℕ → TakenValue → Type 0
IsTaken t.Down octets taken = taken ≡ is_down
IsTaken t.Lost octets taken = taken ≡ is_lost
IsTaken t.Silent octets taken = taken ≡ takes None
IsTaken t.Replies octets taken = (reply : MessageValue) × (taken ≡ takes (Some reply)) × (octets ≡ text reply) × Spells octets reply

-- ---- what another program on an end's machine may not send

-- a request about a lease, or a grant: what could take a lease away, or give a name
abbrev pub MovesName : MessageValue → Type 0
MovesName (registration r) = Unit {0}
MovesName (overwrite r) = Unit {0}
MovesName (refresh r) = Unit {0}
MovesName (release id name kind addr) = Unit {0}
MovesName (registered rcode r) = rcode ≡ 0
MovesName _ = ⊥

abbrev pub SpellMove : List ℕ → Type 0
SpellMove octets = (message : MessageValue) × Spells octets message × MovesName message

-- ---- what comes of it

-- the node is another, and what it gave was sent
abbrev pub after : WorldValue → (number : ℕ) → NodeValue → CallOutcomeValue → WorldValue
after world number new nothing = record world { ends = with_node world.ends number (Some new) }
after world number new (refusal fault) = record world { ends = with_node world.ends number (Some new) }
after world number new (octets_to to octets) =
    record world { ends = with_node world.ends number (Some new); sent = world.sent ++ datagram new.addr to world.now octets ∷ [] }

abbrev pub outcome_of : WorldValue → CallOutcomeValue → Outcome
outcome_of world nothing = o.Nothing
outcome_of world (refusal number) = o.Refused number
outcome_of world (octets_to to octets) = o.Sent (length world.sent)

-- the ends are these, and the reply to a datagram was sent
abbrev pub after_taking : WorldValue → Ends → (from to : Addr) → TakenValue → WorldValue
after_taking world ends from to is_down = record world { ends = ends }
after_taking world ends from to is_lost = record world { ends = ends }
after_taking world ends from to (takes None) = record world { ends = ends }
after_taking world ends from to (takes (Some reply)) = record world { ends = ends; sent = world.sent ++ datagram from to world.now (text reply) ∷ [] }

abbrev pub outcome_of_taking : WorldValue → TakenValue → Outcome
outcome_of_taking world is_down = o.Down
outcome_of_taking world is_lost = o.Lost
outcome_of_taking world (takes None) = o.Taken
outcome_of_taking world (takes (Some reply)) = o.Sent (length world.sent)

-- ---- a step

-- The true clock goes on, and each end's reading by its own milliseconds, also while the end is down. The bound is kept
-- still where no end's numbers are more than the bound allows above the least so far. The readings are timely still where no end's
-- first number is, and no node's second.
pub record Advances (old : WorldValue) (ms : ℕ) (moves : ℕ → ℕ) (new : WorldValue) : Type 0 where
  pub now : new.now.clock ≡ later old.now.clock ms
  pub readings : (number : ℕ) → IsEnd old.ends number → reading new.now number ≡ later (reading old.now number) (moves number)
  pub least : (number : ℕ) → IsEnd old.ends number → least_of new.least number ≡ lesser (least_of old.least number) (numbers_of new.now number)
  pub kept : IsTrue new.kept ↔ (IsTrue old.kept × ((number : ℕ) → IsEnd old.ends number → IsAllowed (least_of new.least number) new.now number))
  pub timely : IsTrue new.timely ↔ (IsTrue old.timely × ((number : ℕ) → IsEnd old.ends number → IsAllowedTimely (least_of new.least number) new.now number))
  pub others : new ≡ record old { now = new.now; least = new.least; kept = new.kept; timely = new.timely }

pub data Step (old : WorldValue) : Event → Outcome → WorldValue → Type 0 where
  ticks : (ms : ℕ) (new : WorldValue) → Advances old ms (λ number. ms) new → Step old (Tick ms) o.Done new
  advances : (ms : ℕ) (readings : List ℕ) (new : WorldValue) → Advances old ms (slice_index readings) new → Step old (Advance ms readings) o.Done new
  starts : (number : ℕ) (ends : Ends) → Starts old.config (reading old.now number) old.ends number ends → Step old (Start number) o.Done (record old { ends = ends })
  starts_nothing : (number : ℕ) → ¬ IsDown old.ends number → Step old (Start number) o.Nothing old
  crashes : (number : ℕ) (ends : Ends) → Crashes old.ends number ends → Step old (Crash number) o.Done (record old { ends = ends })
  crashes_nothing : (number : ℕ) → ¬ IsUp old.ends number → Step old (Crash number) o.Nothing old
  resumes : (ends : Ends) → Resumes (reading old.now 0) old.ends ends → Step old Resume o.Done (record old { ends = ends })
  resumes_nothing : CannotResume old.ends → Step old Resume o.Nothing old
  -- a node does something of its own, or is down
  node_does : (event : Event) (number : ℕ) (node new : NodeValue) (given : CallOutcomeValue) → number_in event ≡ Some number → node_of old.ends number ≡ Some node → NodeDoes node (reading old.now number) event new given
      → Step old event (outcome_of old given) (after old number new given)
  node_is_down : (event : Event) (number : ℕ) → number_in event ≡ Some number → node_of old.ends number ≡ None → Step old event o.Down old
  -- a datagram of the list is delivered: to nobody, too late, or to an end, whose reply goes back
  no_datagram : (k : ℕ) → slice_get old.sent k ≡ None → Step old (Deliver k) o.Nobody old
  no_end : (k : ℕ) (d : Datagram) → slice_get old.sent k ≡ Some d → ((number : ℕ) → addr_of old.ends number ≢ Some d.to) → Step old (Deliver k) o.Nobody old
  too_late : (k : ℕ) (d : Datagram) (number : ℕ) → slice_get old.sent k ≡ Some d → addr_of old.ends number ≡ Some d.to → ¬ IsDeliverable old.config.life old.now.clock d.moment.clock
      → Step old (Deliver k) o.Lost old
  delivered : (k : ℕ) (d : Datagram) (number : ℕ) (taken : TakenValue) (ends : Ends) → slice_get old.sent k ≡ Some d → addr_of old.ends number ≡ Some d.to
      → IsDeliverable old.config.life old.now.clock d.moment.clock → EndTakes (reading old.now number) old.ends d.from d.octets.items number taken ends
      → Step old (Deliver k) (outcome_of_taking old taken) (after_taking old ends d.to d.from taken)
  -- a datagram comes from an address that is no end's
  from_an_end : (from : Addr) (number : ℕ) (octets : Vec ℕ) → IsOfEnd old.ends from.ip → Step old (Stranger from number octets) o.Nobody old
  to_no_end : (from : Addr) (number : ℕ) (octets : Vec ℕ) → addr_of old.ends number ≡ None → Step old (Stranger from number octets) o.Nobody old
  from_a_stranger : (from addr : Addr) (number : ℕ) (octets : Vec ℕ) (taken : TakenValue) (ends : Ends) → ¬ IsOfEnd old.ends from.ip → addr_of old.ends number ≡ Some addr
      → EndTakes (reading old.now number) old.ends from octets.items number taken ends
      → Step old (Stranger from number octets) (outcome_of_taking old taken) (after_taking old ends addr from taken)
  -- another program on an end's machine sends a datagram
  beside_no_end : (from : Addr) (number : ℕ) (octets : Vec ℕ) → ¬ IsOfEnd old.ends from.ip → Step old (Beside from number octets) o.Nobody old
  beside_moves : (from : Addr) (number : ℕ) (octets : Vec ℕ) → SpellMove octets.items → Step old (Beside from number octets) o.Nobody old
  beside_to_no_end : (from : Addr) (number : ℕ) (octets : Vec ℕ) → addr_of old.ends number ≡ None → Step old (Beside from number octets) o.Nobody old
  from_beside : (from addr : Addr) (number : ℕ) (octets : Vec ℕ) (taken : TakenValue) (ends : Ends) → IsOfEnd old.ends from.ip → ¬ SpellMove octets.items → addr_of old.ends number ≡ Some addr
      → EndTakes (reading old.now number) old.ends from octets.items number taken ends
      → Step old (Beside from number octets) (outcome_of_taking old taken) (after_taking old ends addr from taken)

-- room for a datagram may be made for all other events
abbrev pub TakesNoMemory : Event → Type 0
TakesNoMemory (Tick ms) = Unit {0}
TakesNoMemory (Advance ms readings) = Unit {0}
TakesNoMemory (Start number) = Unit {0}
TakesNoMemory (Crash number) = Unit {0}
TakesNoMemory Resume = Unit {0}
TakesNoMemory _ = ⊥
