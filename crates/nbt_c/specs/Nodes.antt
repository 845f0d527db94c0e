-- What the calls of a node in C's memory answer: 0, or the first number that is wrong, or the number of the node's refusal.
use Rattle.std.specs.Prelude.{◌≡◌, ℕ, ◌<◌, ◌≤◌, Bool, true, false, List, [], Option, Some, None}
use Rattle.nbt_name.specs.declared.addr.Addr.{Addr}
use Rattle.nbt_name.specs.declared.addr.Kind.{Kind}
use Rattle.nbt_lease.specs.Config.{last_moment}
use Rattle.nbt_packet.specs.Message.{MessageValue, query, status_request}
use Rattle.nbt_node.specs.Node.{NodeValue, holds}
use Rattle.nbt_node.specs.Calls.{started_from, started, ask_refusal, release_refusal, resolve_refusal, status_refusal, Sends, Opens, Polls}
use Rattle.nbt_node.specs.declared.fault.AskFault.{AskFault}
use Rattle.nbt_node.specs.declared.fault.ReleaseFault.{ReleaseFault}
use Rattle.nbt_node.specs.declared.fault.LookupFault.{LookupFault}
use Rattle.nbt_node.specs.declared.lookup.Wanted.TheVariants.{Entries, Names}
use Rattle.nbt_node.specs.Moves.{ask, give_back, Told, nothing}
use Rattle.nbt_node.specs.Numbers.{ask_fault_number, release_fault_number, lookup_fault_number}
use Rattle.nbt_node.specs.Datagrams.{Handles, Says}
use Rattle.nbt_node.specs.Answering.{sent_back}
use Rattle.nbt_node.specs.declared.standing.Standing.{Standing}
use Rattle.nbt_node.specs.declared.standing.Standing.TheVariants as s
use Rattle.nbt_node.specs.Standing.{standing}
use Rattle.nbt_c.specs.declared.ends.CConfig.{CConfig}
use Rattle.nbt_c.specs.Results.{no_name, no_moment, no_kind}
use Rattle.nbt_c.specs.declared.name.CName.{CName}
use Rattle.nbt_c.specs.Names.{HoldsName, name_in}
use Rattle.nbt_c.specs.declared.ends.CAddr.{CAddr}
use Rattle.nbt_c.specs.Ends.{addr_for, kind_number, kind_of, StartsWith}
use Rattle.nbt_c.specs.Events.{octets_back, reported}
use Rattle.nbt_c.specs.Sizes.{node_slots}

abbrev pub Starts : (own server : Addr) (config : CConfig) (now : ℕ) → ℕ → Option NodeValue → Type 0
Starts own server config now = StartsWith (λ limits node. node ≡ started node_slots own server limits now) config now

abbrev pub StartsFrom : (own server : Addr) (config : CConfig) (now first_id : ℕ) → ℕ → Option NodeValue → Type 0
StartsFrom own server config now first_id = StartsWith (λ limits node. node ≡ started_from node_slots own server limits now first_id) config now

pub data Asks (old : NodeValue) (now : ℕ) (held : CName) (kind ttl : ℕ) : ℕ → NodeValue → List ℕ → Type 0 where
  asks : (k : Kind) (new : NodeValue) (octets : List ℕ) → now ≤ last_moment → HoldsName held → kind_of kind ≡ Some k → ask_refusal old now (name_in held) ≡ None
      → Sends old now (name_in held) (ask k ttl) new octets → Asks old now held kind ttl 0 new octets
  is_refused : (k : Kind) (fault : AskFault) → now ≤ last_moment → HoldsName held → kind_of kind ≡ Some k → ask_refusal old now (name_in held) ≡ Some fault
      → Asks old now held kind ttl (ask_fault_number fault) old []
  has_no_kind : now ≤ last_moment → HoldsName held → kind_of kind ≡ None → Asks old now held kind ttl no_kind old []
  has_no_name : now ≤ last_moment → ¬ HoldsName held → Asks old now held kind ttl no_name old []
  has_no_moment : last_moment < now → Asks old now held kind ttl no_moment old []

pub data GivesBack (old : NodeValue) (now : ℕ) (held : CName) : ℕ → NodeValue → List ℕ → Type 0 where
  gives_back : (new : NodeValue) (octets : List ℕ) → now ≤ last_moment → HoldsName held → release_refusal old now (name_in held) ≡ None
      → Sends old now (name_in held) give_back new octets → GivesBack old now held 0 new octets
  is_refused : (fault : ReleaseFault) → now ≤ last_moment → HoldsName held → release_refusal old now (name_in held) ≡ Some fault
      → GivesBack old now held (release_fault_number fault) old []
  has_no_name : now ≤ last_moment → ¬ HoldsName held → GivesBack old now held no_name old []
  has_no_moment : last_moment < now → GivesBack old now held no_moment old []

pub data Resolves (old : NodeValue) (now : ℕ) (held : CName) : ℕ → NodeValue → List ℕ → Type 0 where
  resolves : (new : NodeValue) (octets : List ℕ) → now ≤ last_moment → HoldsName held → resolve_refusal old now (name_in held) ≡ None
      → Opens old now (name_in held) old.server Entries new octets → Resolves old now held 0 new octets
  is_refused : (fault : LookupFault) → now ≤ last_moment → HoldsName held → resolve_refusal old now (name_in held) ≡ Some fault
      → Resolves old now held (lookup_fault_number fault) old []
  has_no_name : now ≤ last_moment → ¬ HoldsName held → Resolves old now held no_name old []
  has_no_moment : last_moment < now → Resolves old now held no_moment old []

pub data AsksStatus (old : NodeValue) (now : ℕ) (to : Addr) (held : CName) : ℕ → NodeValue → List ℕ → Type 0 where
  asks_status : (new : NodeValue) (octets : List ℕ) → now ≤ last_moment → HoldsName held → status_refusal old now ≡ None
      → Opens old now (name_in held) to Names new octets → AsksStatus old now to held 0 new octets
  is_refused : (fault : LookupFault) → now ≤ last_moment → HoldsName held → status_refusal old now ≡ Some fault
      → AsksStatus old now to held (lookup_fault_number fault) old []
  has_no_name : now ≤ last_moment → ¬ HoldsName held → AsksStatus old now to held no_name old []
  has_no_moment : last_moment < now → AsksStatus old now to held no_moment old []

-- the number of `ClockBack`
abbrev pub clock_back : ℕ
clock_back = 4

-- a message to which something may be sent back: a query, or a status request
abbrev pub is_request : Option MessageValue → Bool
is_request (Some (query id name)) = true
is_request (Some (status_request id name)) = true
is_request message = false

-- A datagram is handled, and then something is sent back, or nothing: the node's own reply, or that to a query for a name that it holds.
pub data Hears (old : NodeValue) (now : ℕ) (from : Addr) (octets : List ℕ) : ℕ → NodeValue → Told → Option MessageValue → List ℕ → Type 0 where
  hears : (new : NodeValue) (message : Option MessageValue) (told : Told) (own : List ℕ) → now ≤ last_moment → old.last ≤ now → Says octets message → Handles old now from octets new told own
      → Hears old now from octets 0 new (reported told (sent_back new now message told own)) message (octets_back (sent_back new now message told own))
  is_late : now ≤ last_moment → now < old.last → Hears old now from octets clock_back old nothing None []
  has_no_moment : last_moment < now → Hears old now from octets no_moment old nothing None []

-- the endpoint that a poll names stands where the caller asked for it; where nothing is sent, what stood there stays
abbrev pub end_after : CAddr → Option Addr → CAddr
end_after before None = before
end_after before (Some to) = addr_for to

pub data PollsNode (old : NodeValue) (now : ℕ) : ℕ → NodeValue → Option Addr → List ℕ → Type 0 where
  polls : (new : NodeValue) (to : Option Addr) (octets : List ℕ) → now ≤ last_moment → old.last ≤ now → Polls old now new to octets → PollsNode old now 0 new to octets
  is_late : now ≤ last_moment → now < old.last → PollsNode old now clock_back old None []
  has_no_moment : last_moment < now → PollsNode old now no_moment old None []

-- 0 not held, 1 as one machine's, 2 as a group's
abbrev pub held_number : Option Kind → ℕ
held_number None = 0
held_number (Some kind) = kind_number kind

pub data Holds (node : NodeValue) (now : ℕ) (held : CName) : ℕ → Option Kind → Type 0 where
  is_asked : now ≤ last_moment → HoldsName held → Holds node now held 0 (holds node (name_in held) now)
  has_no_name : now ≤ last_moment → ¬ HoldsName held → Holds node now held no_name None
  has_no_moment : last_moment < now → Holds node now held no_moment None

-- 0 idle, 1 asking, 2 held, 3 releasing, 4 resting
abbrev pub standing_number : Standing → ℕ
standing_number s.Idle = 0
standing_number s.Asking = 1
standing_number s.Held = 2
standing_number s.Releasing = 3
standing_number s.Resting = 4

-- how a name stands is written where the caller asked for it; else what stood there stays
pub data Stands (node : NodeValue) (now : ℕ) (held : CName) (before : ℕ) : ℕ → ℕ → Type 0 where
  stands : (it : Standing) → now ≤ last_moment → HoldsName held → standing node (name_in held) now ≡ Some it → Stands node now held before 0 (standing_number it)
  is_late : now ≤ last_moment → HoldsName held → standing node (name_in held) now ≡ None → Stands node now held before clock_back before
  has_no_name : now ≤ last_moment → ¬ HoldsName held → Stands node now held before no_name before
  has_no_moment : last_moment < now → Stands node now held before no_moment before
