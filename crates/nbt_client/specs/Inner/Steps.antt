-- A turn by what the code returns of it, and turns that have gone by: words of contracts within the crate.
use Rattle.std.specs.Prelude.{◌≡◌, ℕ, Bool, true, List, length}
use Rattle.nbt_node.specs.Node.{NodeValue}
use Rattle.nbt_node.specs.Moves.{Told}
use Rattle.nbt_port.specs.declared.port.Route.{Route}
use Rattle.nbt_port.specs.PortCalls.{PortCall, came, Chain}
use Rattle.nbt_client.specs.declared.lookup.Ending.TheVariants as e
use Rattle.nbt_client.specs.declared.lookup_turn.Progress.{Progress}
use Rattle.nbt_client.specs.declared.lookup_turn.Progress.TheVariants as g
use Rattle.nbt_client.specs.Lookups.{Looking, Turn, Hears, Waits, is_end, Ends}

-- What a turn was: one that waits; or one that ends the lookup by a reply, or since it doesn't go on, after whatever number of turns.
abbrev pub TurnIs : {P C : Type 0} → (P → PortCall → P → Type 0) → (C → ℕ → C → Type 0) → (limit : ℕ) → Progress → (octets : List ℕ) → Looking P C → Looking P C → Type 0
TurnIs does tells limit g.Waits octets old new = (turn : Turn) × Waits does tells limit old turn new
TurnIs does tells limit g.Told octets old new = (most count : ℕ) → Ends does tells limit most count old e.Told octets new
TurnIs does tells limit g.Late octets old new = (most count : ℕ) → Ends does tells limit most count old e.NoReply octets new

-- one receive, the reading after it, and what the node made of it
pub record HeardIs {P C : Type 0} (does : P → PortCall → P → Type 0) (tells : C → ℕ → C → Type 0) (ended : Bool) (octets : List ℕ) (p : P) (c : C) (s : NodeValue) (q : P) (d : C) (t : NodeValue) : Type 0 where
  pub second : ℕ
  pub hearing : PortCall
  pub told : Told
  pub hears : Hears second s hearing told t
  pub ended_is : ended ≡ is_end told
  pub by : is_end told ≡ true → (from : Route) × (hearing ≡ came from octets)
  pub port_did : does p hearing q
  pub clock_told : tells c second d

-- a number of turns that didn't end it
abbrev pub Passed : {P C : Type 0} → (P → PortCall → P → Type 0) → (C → ℕ → C → Type 0) → (limit count : ℕ) → Looking P C → Looking P C → Type 0
Passed does tells limit count old new = (turns : List Turn) × Chain (Waits does tells limit) old turns new × (length turns ≡ count)
