-- What was heard, as the code returns it: words of contracts within the crate.
use Rattle.std.specs.Prelude.{◌≡◌, ℕ, Bool, false, List, length, ◌↔◌, IsTrue}
use Rattle.nbt_port.specs.PortCalls.{PortCall, receive_failed, Chain}
use Rattle.nbt_host.specs.declared.watching.Look.{Look}
use Rattle.nbt_host.specs.Hosting.{Terms, HearsAfter, LosesReply}
use Rattle.nbt_host.specs.Sleeping.{with_earlier}
use Rattle.nbt_host.specs.Releasing.{Releasing, Turns, TurnsOn, GoesOn}

-- One receive, the look at the clocks after it, and what is made of it.
pub record Listens {P K : Type 0} (does : P → PortCall → P → Type 0) (looks : K → Look → K → Type 0) (t : Terms) (old new : Releasing P K) : Type 0 where
  pub second : Look
  pub hearing : List PortCall
  pub hears : HearsAfter t second old.host hearing new.host
  pub last_is : new.last ≡ with_earlier old.last second
  pub port_did : Chain does old.port hearing new.port
  pub looked : looks old.watch second new.watch

-- The device fails in it.
pub data LosesListening {P K : Type 0} (does : P → PortCall → P → Type 0) (looks : K → Look → K → Type 0) (old new : Releasing P K) : Type 0 where
  loses_receive : does old.port receive_failed new.port → new ≡ record old { port = new.port } → LosesListening does looks old new
  loses_send : (second : Look) (hearing : List PortCall) → second.slept ≡ false → LosesReply second.at old.host.node hearing new.host.node → new.host.goals ≡ old.host.goals
      → new.last ≡ with_earlier old.last second → Chain does old.port hearing new.port → looks old.watch second new.watch → LosesListening does looks old new

-- A turn of the ending, by whether it goes on after it.
abbrev pub EndTurnIs : {P K : Type 0} → (P → PortCall → P → Type 0) → (K → ℕ → K → Type 0) → (K → Look → K → Type 0) → Terms → (limit : ℕ) → (on : Bool) → Releasing P K → Releasing P K → Type 0
EndTurnIs does tells looks t limit on old new = (at : ℕ) × Turns does tells looks t old at new × (IsTrue on ↔ GoesOn limit new.host.goals at)

-- So many turns after which it went on.
abbrev pub Passed : {P K : Type 0} → (P → PortCall → P → Type 0) → (K → ℕ → K → Type 0) → (K → Look → K → Type 0) → Terms → (limit count : ℕ) → Releasing P K → Releasing P K → Type 0
Passed does tells looks t limit count old new = (times : List ℕ) × Chain (TurnsOn does tells looks t limit) old times new × (length times ≡ count)
