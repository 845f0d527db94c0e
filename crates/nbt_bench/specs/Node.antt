-- What `node` does and prints (our profile).
use Rattle.std.specs.Prelude.{◌≡◌, ◌≢◌, ◌⊎◌, ℕ, ◌<◌, List, [], ◌++◌, length, Option, Some, None, codes}
use Rattle.std.specs.Fmt.{decimal}
use Rattle.std.specs.Io.KnownBytes.{Appends}
use Rattle.nbt_name.specs.declared.addr.Addr.{Addr}
use Rattle.nbt_name.specs.declared.addr.Kind.{Kind}
use Rattle.nbt_node.specs.Calls.{started}
use Rattle.nbt_node.specs.Node.{NodeValue, holds, slots_most}
use Rattle.nbt_port.specs.PortCalls.{PortCall, Chain}
use Rattle.nbt_client.specs.Turning.{TakesTurn, BreaksTurn}
use Rattle.nbt_client.specs.declared.turning.Seen.{Seen}
use Rattle.nbt_client.specs.declared.turning.Seen.TheVariants as s
use Rattle.nbt_client.specs.declared.turning.Want.{Want}
use Rattle.nbt_port.specs.Clocks.{MachineTells}
use Rattle.nbt_port.specs.Udp.{UdpDoes}
use Rattle.nbt_port.specs.declared.fault.Fault.{Fault}
use Rattle.nbt_port.specs.declared.fault.Fault.TheVariants as f
use Rattle.nbt_bench.specs.Here.{Here}
use Rattle.nbt_text.specs.Lines.{one_line}
use Rattle.nbt_port.specs.Staying.{StaysUp, EndsEarly}
use Rattle.nbt_port.specs.Numbers.{forever}
use Rattle.nbt_bench.specs.declared.node.NodeArguments.{NodeArguments}

-- the line of what was seen in a turn, or nothing
abbrev pub seen_text : Seen → List ℕ
seen_text s.Nothing = []
seen_text (s.Granted seconds) = one_line (codes "granted " ++ decimal seconds)
seen_text (s.Renewed seconds) = one_line (codes "renewed " ++ decimal seconds)
seen_text (s.Refused rcode) = one_line (codes "refused " ++ decimal rcode)
seen_text s.Lost = one_line (codes "lost")

-- the last line: whether the name is held, as a kind
abbrev pub held_text : Option Kind → List ℕ
held_text (Some kind) = one_line (codes "held")
held_text None = one_line (codes "not held")

-- a port, a clock, a node, and what is printed
pub record Running (P C : Type 0) : Type 0 where
  pub port : P
  pub clock : C
  pub node : NodeValue
  pub text : Option (List ℕ)

-- A turn makes these of those, this is seen in it, and its line is printed.
abbrev pub Turns : {P C : Type 0} → (P → PortCall → P → Type 0) → (C → ℕ → C → Type 0) → Addr → Want → Running P C → Seen → Running P C → Type 0
Turns does tells server want old seen new = (acts : List PortCall) × (moments : List ℕ) × TakesTurn server want old.node acts moments seen new.node
    × Chain does old.port acts new.port × Chain tells old.clock moments new.clock × Appends old.text new.text (seen_text seen)

-- The device fails in a turn, and nothing is printed of it.
abbrev pub BreaksTurns : {P C : Type 0} → (P → PortCall → P → Type 0) → (C → ℕ → C → Type 0) → Addr → Want → Running P C → Running P C → Type 0
BreaksTurns does tells server want old new = (acts : List PortCall) × (moments : List ℕ) × BreaksTurn server want old.node acts moments new.node
    × Chain does old.port acts new.port × Chain tells old.clock moments new.clock × (new.text ≡ old.text)

-- A turn goes well, but the line of what was seen in it can't be written. What stands in the text then isn't said.
abbrev pub CutsTurn : {P C : Type 0} → (P → PortCall → P → Type 0) → (C → ℕ → C → Type 0) → Addr → Want → Running P C → Running P C → Type 0
CutsTurn does tells server want old new = (seen : Seen) × (seen ≢ s.Nothing) × (acts : List PortCall) × (moments : List ℕ) × TakesTurn server want old.node acts moments seen new.node
    × Chain does old.port acts new.port × Chain tells old.clock moments new.clock

-- how a turn fails: in no other way than by the device, or by its line
abbrev pub FailsTurn : {P C : Type 0} → (P → PortCall → P → Type 0) → (C → ℕ → C → Type 0) → Addr → Want → Fault → Running P C → Running P C → Type 0
FailsTurn does tells server want f.Device old new = BreaksTurns does tells server want old new
FailsTurn does tells server want f.Output old new = CutsTurn does tells server want old new
FailsTurn does tells server want fault old new = ⊥

-- a number of turns, one after the other
pub record TakesTurns {P C : Type 0} (does : P → PortCall → P → Type 0) (tells : C → ℕ → C → Type 0) (server : Addr) (want : Want) (count : ℕ) (old new : Running P C) : Type 0 where
  pub seen : List Seen
  pub turns : Chain (Turns does tells server want) old seen new
  pub count_is : length seen ≡ count

-- fewer turns than that, and then one that ends them in such a way
pub record EndsTurns {P C : Type 0} (does : P → PortCall → P → Type 0) (tells : C → ℕ → C → Type 0) (server : Addr) (want : Want) (ends : Running P C → Running P C → Type 0) (count : ℕ) (old new : Running P C) : Type 0 where
  pub seen : List Seen
  pub mid : Running P C
  pub turns : Chain (Turns does tells server want) old seen mid
  pub fewer : length seen < count
  pub ended : ends mid new

-- With a number of turns it takes them. With no end it stays up.
abbrev pub RunsFor : {P C : Type 0} → (P → PortCall → P → Type 0) → (C → ℕ → C → Type 0) → (turns : Option ℕ) → Addr → Want → Running P C → Running P C → Type 0
RunsFor does tells (Some turns) server want old new = TakesTurns does tells server want turns old new
RunsFor does tells None server want old new = StaysUp (Turns does tells server want) (BreaksTurns does tells server want) forever old new

-- It ends early for a fault, at once in the turn that fails so; with no end it gives up only as often as the device fails in a row.
abbrev pub NodeEndsFor : {P C : Type 0} → (P → PortCall → P → Type 0) → (C → ℕ → C → Type 0) → (turns : Option ℕ) → Addr → Want → Fault → Running P C → Running P C → Type 0
NodeEndsFor does tells (Some turns) server want fault old new = EndsTurns does tells server want (FailsTurn does tells server want fault) turns old new
NodeEndsFor does tells None server want fault old new = EndsEarly (Turns does tells server want) (BreaksTurns does tells server want) (FailsTurn does tells server want) forever fault old new

-- The turns, and after them a line that says whether it then holds the name, at the moment that the clock told last.
abbrev pub RunsToItsEnd : {P : Type 0} → (P → PortCall → P → Type 0) → NodeArguments → Running P ℕ → Running P ℕ → Type 0
RunsToItsEnd does a old new = (turns_text : Option (List ℕ)) × RunsFor does MachineTells a.turns a.server a.want old (record new { text = turns_text })
    × Appends turns_text new.text (held_text (holds new.node a.want.name new.clock))

-- A line can't be written: that of an event; or, after all turns, the last one.
abbrev pub IsCutToItsEnd : {P : Type 0} → (P → PortCall → P → Type 0) → NodeArguments → Running P ℕ → Running P ℕ → Type 0
IsCutToItsEnd does a old new = NodeEndsFor does MachineTells a.turns a.server a.want f.Output old new
    ⊎ ((turns_text : Option (List ℕ)) × RunsFor does MachineTells a.turns a.server a.want old (record new { text = turns_text }))

-- The machine's clock is read, a node starts at that moment, and the three go on from there.
pub record NodeBegins {P : Type 0} (a : NodeArguments) (goes : Running P ℕ → Running P ℕ → Type 0)
    (old_port : P) (old_clock : ℕ) (old_text : Option (List ℕ)) (port : P) (clock : ℕ) (text : Option (List ℕ)) : Type 0 where
  pub start : ℕ
  pub node : NodeValue
  pub clock_told : MachineTells old_clock start start
  pub goes_on : goes (record { port = old_port; clock = start; node = started slots_most a.bind a.server a.config start; text = old_text }) (record { port = port; clock = clock; node = node; text = text })

abbrev pub RunsNode : {P : Type 0} → (P → PortCall → P → Type 0) → NodeArguments → P → (old_clock : ℕ) → (old_text : Option (List ℕ)) → P → (clock : ℕ) → (text : Option (List ℕ)) → Type 0
RunsNode does a old_port old_clock old_text port clock text = NodeBegins a (RunsToItsEnd does a) old_port old_clock old_text port clock text

abbrev pub NodeFails : {P : Type 0} → (P → PortCall → P → Type 0) → NodeArguments → P → (old_clock : ℕ) → (old_text : Option (List ℕ)) → P → (clock : ℕ) → (text : Option (List ℕ)) → Type 0
NodeFails does a old_port old_clock old_text port clock text = NodeBegins a (NodeEndsFor does MachineTells a.turns a.server a.want f.Device) old_port old_clock old_text port clock text

abbrev pub NodeIsCut : {P : Type 0} → (P → PortCall → P → Type 0) → NodeArguments → P → (old_clock : ℕ) → (old_text : Option (List ℕ)) → P → (clock : ℕ) → (text : Option (List ℕ)) → Type 0
NodeIsCut does a old_port old_clock old_text port clock text = NodeBegins a (IsCutToItsEnd does a) old_port old_clock old_text port clock text

-- the same over this machine
abbrev pub RunsNodeHere : NodeArguments → (old_text text : Option (List ℕ)) → Type 0
RunsNodeHere a old_text text = Here a.bind (λ old_port old_clock port clock. RunsNode UdpDoes a old_port old_clock old_text port clock text)

abbrev pub NodeFailsHere : NodeArguments → (old_text text : Option (List ℕ)) → Type 0
NodeFailsHere a old_text text = Here a.bind (λ old_port old_clock port clock. NodeFails UdpDoes a old_port old_clock old_text port clock text)

abbrev pub NodeIsCutHere : NodeArguments → (old_text text : Option (List ℕ)) → Type 0
NodeIsCutHere a old_text text = Here a.bind (λ old_port old_clock port clock. NodeIsCut UdpDoes a old_port old_clock old_text port clock text)
