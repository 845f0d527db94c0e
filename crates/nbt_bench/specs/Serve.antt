-- What `serve` does and prints (our profile).
use Rattle.std.specs.Prelude.{◌≡◌, ℕ, List, [], ◌++◌, Option, Some, None, codes}
use Rattle.std.specs.Fmt.{decimal}
use Rattle.std.specs.Io.KnownBytes.{Appends}
use Rattle.nbt_lease.specs.Config.{ConfigValue}
use Rattle.nbt_server.specs.Serving.{ServerValue}
use Rattle.nbt_server.specs.Calls.{ServerStarts}
use Rattle.nbt_port.specs.PortCalls.{PortCall}
use Rattle.nbt_serve.specs.Serving.{Runs, Breaks}
use Rattle.nbt_port.specs.Clocks.{MachineTells}
use Rattle.nbt_port.specs.Udp.{UdpDoes}
use Rattle.nbt_serve.specs.declared.serving.Counts.{Counts}
use Rattle.nbt_bench.specs.Here.{Here}
use Rattle.nbt_text.specs.Lines.{one_line}
use Rattle.nbt_port.specs.Staying.{StaysUp, GivesUp}
use Rattle.nbt_port.specs.Numbers.{forever}
use Rattle.nbt_bench.specs.declared.serve.ServeArguments.{ServeArguments}

-- the line of the counts; each turn is one receive
abbrev pub counts_text : Counts → List ℕ
counts_text counts = one_line (codes "turns " ++ decimal counts.receives ++ codes " replies " ++ decimal counts.replies ++ codes " lost " ++ decimal counts.lost)

-- a port, a clock and a server
pub record Serving (P C : Type 0) : Type 0 where
  pub port : P
  pub clock : C
  pub server : ServerValue

-- one turn of a server, with what it did in it
abbrev pub ServesTurn : {P C : Type 0} → (P → PortCall → P → Type 0) → (C → ℕ → C → Type 0) → Serving P C → Counts → Serving P C → Type 0
ServesTurn does tells old counts new = Runs does tells 1 counts old.port old.clock old.server new.port new.clock new.server

-- one turn of a server in which the device fails
abbrev pub BreaksServing : {P C : Type 0} → (P → PortCall → P → Type 0) → (C → ℕ → C → Type 0) → Serving P C → Serving P C → Type 0
BreaksServing does tells old new = Breaks does tells 1 old.port old.clock old.server new.port new.clock new.server

-- With a number of turns a server goes through them, and the text grows by the line of the counts. With no end it stays up.
abbrev pub ServesFor : {P C : Type 0} → (P → PortCall → P → Type 0) → (C → ℕ → C → Type 0) → (turns : Option ℕ) → Serving P C → (old_text : Option (List ℕ)) → Serving P C → (text : Option (List ℕ)) → Type 0
ServesFor does tells (Some turns) old old_text new text = (counts : Counts) × Runs does tells turns counts old.port old.clock old.server new.port new.clock new.server
    × Appends old_text text (counts_text counts)
ServesFor does tells None old old_text new text = StaysUp (ServesTurn does tells) (BreaksServing does tells) forever old new

-- The device fails. With a number of turns that is at the first call of the port that does, and nothing is printed. With no
-- end the server gives up.
abbrev pub FailsFor : {P C : Type 0} → (P → PortCall → P → Type 0) → (C → ℕ → C → Type 0) → (turns : Option ℕ) → Serving P C → (old_text : Option (List ℕ)) → Serving P C → (text : Option (List ℕ)) → Type 0
FailsFor does tells (Some turns) old old_text new text = Breaks does tells turns old.port old.clock old.server new.port new.clock new.server × (text ≡ old_text)
FailsFor does tells None old old_text new text = GivesUp (ServesTurn does tells) (BreaksServing does tells) forever old new

-- The line can't be written. With a number of turns that is after the last of them, and with no end before the first.
abbrev pub IsCutFor : {P C : Type 0} → (P → PortCall → P → Type 0) → (C → ℕ → C → Type 0) → (turns : Option ℕ) → Serving P C → Serving P C → Type 0
IsCutFor does tells (Some turns) old new = (counts : Counts) × Runs does tells turns counts old.port old.clock old.server new.port new.clock new.server
IsCutFor does tells None old new = new ≡ old

-- A clock is read, a server starts at that moment, and the three go on from there.
pub record Begins {P C : Type 0} (tells : C → ℕ → C → Type 0) (config : ConfigValue) (goes : Serving P C → Serving P C → Type 0)
    (old_port : P) (old_clock : C) (port : P) (clock : C) : Type 0 where
  pub start : ℕ
  pub started_clock : C
  pub first : ServerValue
  pub last : ServerValue
  pub clock_told : tells old_clock start started_clock
  pub starts : ServerStarts config start first
  pub goes_on : goes (record { port = old_port; clock = started_clock; server = first }) (record { port = port; clock = clock; server = last })

abbrev pub RunsServer : {P C : Type 0} → (P → PortCall → P → Type 0) → (C → ℕ → C → Type 0) → ServeArguments → P → C → (old_text : Option (List ℕ)) → P → C → (text : Option (List ℕ)) → Type 0
RunsServer does tells a old_port old_clock old_text port clock text = Begins tells a.config (λ old new. ServesFor does tells a.turns old old_text new text) old_port old_clock port clock

abbrev pub ServerFails : {P C : Type 0} → (P → PortCall → P → Type 0) → (C → ℕ → C → Type 0) → ServeArguments → P → C → (old_text : Option (List ℕ)) → P → C → (text : Option (List ℕ)) → Type 0
ServerFails does tells a old_port old_clock old_text port clock text = Begins tells a.config (λ old new. FailsFor does tells a.turns old old_text new text) old_port old_clock port clock

abbrev pub ServerIsCut : {P C : Type 0} → (P → PortCall → P → Type 0) → (C → ℕ → C → Type 0) → ServeArguments → P → C → P → C → Type 0
ServerIsCut does tells a old_port old_clock port clock = Begins tells a.config (IsCutFor does tells a.turns) old_port old_clock port clock

-- the same over this machine
abbrev pub RunsServerHere : ServeArguments → (old_text text : Option (List ℕ)) → Type 0
RunsServerHere a old_text text = Here a.bind (λ old_port old_clock port clock. RunsServer UdpDoes MachineTells a old_port old_clock old_text port clock text)

abbrev pub ServerFailsHere : ServeArguments → (old_text text : Option (List ℕ)) → Type 0
ServerFailsHere a old_text text = Here a.bind (λ old_port old_clock port clock. ServerFails UdpDoes MachineTells a old_port old_clock old_text port clock text)

abbrev pub ServerIsCutHere : ServeArguments → Type 0
ServerIsCutHere a = Here a.bind (ServerIsCut UdpDoes MachineTells a)
