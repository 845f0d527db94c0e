-- What becomes of a front after a turn, by the parts of its server that may change (private functions alone).
use Rattle.std.specs.Prelude.{ℕ, List}
use Rattle.nbt_lease.specs.Lease.{Rows}
use Rattle.nbt_server.specs.Serving.{ServerValue}
use Rattle.nbt_front.specs.Deciding.{FrontValue}
use Rattle.nbt_front.specs.FixedNames.{capitals_of}
use Rattle.nbt_serve.specs.Runs.{live_rows}

-- the port, the clock and what watches the server
pub record Parts (P C V : Type 0) : Type 0 where
  pub port : P
  pub clock : C
  pub watcher : V

pub data RenewsParts {P C V : Type 0} (renews : P → FrontValue → Rows → ℕ → P → Type 0) (notes : V → List (List ℕ) → V → Type 0) (tells : C → ℕ → C → Type 0) (server : ServerValue) (old : Parts P C V) : Parts P C V → Type 0 where
  keeps_front : RenewsParts renews notes tells server old old
  puts_front : (front : FrontValue) (at : ℕ) (clock : C) (port : P) (watcher : V) → tells old.clock at clock → renews old.port front (live_rows server) at port → notes old.watcher (capitals_of front.fixed) watcher
      → RenewsParts renews notes tells server old (record { port = port; clock = clock; watcher = watcher })
  puts_none : (at : ℕ) (clock : C) → tells old.clock at clock → RenewsParts renews notes tells server old (record old { clock = clock })
