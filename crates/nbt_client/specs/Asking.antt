-- A lookup as a command does it (our profile).
use Rattle.std.specs.Prelude.{ℕ, ◌+◌, ◌-◌, ◌*◌, ◌^◌, List}
use Rattle.nbt_port.specs.PortCalls.{PortCall}
use Rattle.nbt_port.specs.Clocks.{SteadyTells, SteadyBegins, SystemShows}
use Rattle.nbt_port.specs.Udp.{UdpValue, UdpDoes}
use Rattle.nbt_lease.specs.Config.{config_of}
use Rattle.nbt_client.specs.Questions.{end_of}
use Rattle.nbt_client.specs.Lookups.{Looks, Fails}
use Rattle.nbt_client.specs.declared.lookup.Ending.{Ending}
use Rattle.nbt_client.specs.declared.question.Question.{Question}
use Rattle.nbt_name.specs.declared.addr.Addr.{Addr}
use Rattle.nbt_node.specs.Calls.{started_from}
use Rattle.nbt_node.specs.Node.{NodeValue}
use Rattle.nbt_node.specs.Transaction.{sendings, retry_timeout}
use Rattle.nbt_client.specs.Answers.{TellsEnding}
use Rattle.nbt_client.specs.declared.answer.Answer.{Answer}

-- it asks so often at most, as a node sends any request
abbrev pub tries_most : ℕ
tries_most = sendings

-- A lookup asks so often, one try after the other, and waits so long after the last of them.
abbrev pub patience_of : (tries last : ℕ) → ℕ
patience_of tries last = (tries - 1) * retry_timeout + last

-- It takes so many turns at most, of which each waits for one datagram: more than come in the time that it has.
abbrev pub turns_most : ℕ
turns_most = 2 ^ 40

-- The node that asks: it holds nothing, its server is the end that is asked, and its limits are of no use.
abbrev pub started_node : Addr → (first_id : ℕ) → Question → ℕ → NodeValue
started_node own first_id question now = started_from 1 own (end_of question) (config_of 1000 60 1) now first_id

-- The clock is read, a node starts at that moment and looks up, and this is told of how that ended.
pub record Asks {P C : Type 0} (does : P → PortCall → P → Type 0) (tells : C → ℕ → C → Type 0) (own : Addr) (first_id : ℕ) (question : Question) (patience : ℕ)
    (old_port : P) (old_clock : C) (answer : Answer) (text : List ℕ) (port : P) (clock : C) : Type 0 where
  pub now : ℕ
  pub read : C
  pub ending : Ending
  pub octets : List ℕ
  pub node : NodeValue
  pub clock_told : tells old_clock now read
  pub looks : Looks does tells question patience turns_most old_port read (started_node own first_id question now) ending octets port clock node
  pub told : TellsEnding ending octets answer text

-- The same, and a call of the port fails.
pub record AskFails {P C : Type 0} (does : P → PortCall → P → Type 0) (tells : C → ℕ → C → Type 0) (own : Addr) (first_id : ℕ) (question : Question) (patience : ℕ)
    (old_port : P) (old_clock : C) (port : P) (clock : C) : Type 0 where
  pub now : ℕ
  pub read : C
  pub node : NodeValue
  pub clock_told : tells old_clock now read
  pub fails : Fails does tells question patience turns_most old_port read (started_node own first_id question now) port clock node

-- over a UDP port of this machine that was bound to this address, and its steady clock, by some id
abbrev pub AsksHere : Addr → Question → (patience : ℕ) → Answer → List ℕ → Type 0
AsksHere own question patience answer text = (first_id : ℕ) × (first : ℕ) × (port : UdpValue) × (clock : ℕ) × SteadyBegins SystemShows first
    × Asks UdpDoes (SteadyTells SystemShows) own first_id question patience (record { addr = own; failures = 0 }) first answer text port clock

-- the same, and a call of that port fails
abbrev pub AskFailsHere : Addr → Question → (patience : ℕ) → Type 0
AskFailsHere own question patience = (first_id : ℕ) × (first : ℕ) × (port : UdpValue) × (clock : ℕ) × SteadyBegins SystemShows first
    × AskFails UdpDoes (SteadyTells SystemShows) own first_id question patience (record { addr = own; failures = 0 }) first port clock
