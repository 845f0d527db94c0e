-- Turns of a host that gives its names back, up to the end.
use Rattle.std.proofs.Common.{◌≡◌, ℕ, ◌+◌, true, false, List, [], ◌∷◌, ◌++◌, map, refl, arith, length-append}
use Rattle.std.specs.Prelude.{◌<◌}
use Rattle.nbt_port.specs.PortCalls.{PortCall}
use Rattle.nbt_port.proofs.Chains.{chain_on}
use Rattle.nbt_host.specs.declared.goal.Goal.{Goal}
use Rattle.nbt_host.specs.declared.watching.Look.{Look}
use Rattle.nbt_host.specs.Hosting.{Terms}
use Rattle.nbt_host.specs.Releasing.{giving_back, Releasing, TurnsOn, leaving, Breaks, is_over, Ended, Broken, Leaves}
use Rattle.nbt_host.specs.Inner.Parts.{EndTurnIs, Passed}

module _ {P K : Type 0} (does : P → PortCall → P → Type 0) (tells : K → ℕ → K → Type 0) (looks : K → Look → K → Type 0) (t : Terms) (limit count : ℕ) (old mid new : Releasing P K) (x : Passed does tells looks t limit count old mid) where
  pub passed_on : EndTurnIs does tells looks t limit true mid new → Passed does tells looks t limit (count + 1) old new
  passed_on y = (x.0 ++ y.0 ∷ [], chain_on (TurnsOn does tells looks t limit) old mid new x.0 y.0 x.1 (y.1, y.2.0 refl), omega (arith, length-append x.0 (y.0 ∷ []), x.2))

  pub over_at_last : (most : ℕ) → EndTurnIs does tells looks t limit false mid new → Ended does tells looks t limit most old new
  over_at_last most y = is_over x.0 y.0 mid x.1 y.1 (λ on. let e = y.2.1 on in absurd cc)

  pub broken_at_last : (most : ℕ) → count < most → Breaks does looks t mid new → Broken does tells looks t limit most old new
  broken_at_last most less y = record { times = x.0; mid = mid; goes_on = x.1; breaks = y; fewer = omega (arith, x.2, less) }

-- ---- the whole

pub leaves_all : {P K : Type 0} (tells : K → ℕ → K → Type 0) (goes : (limit : ℕ) → Releasing P K → Releasing P K → Type 0) (old new : Releasing P K) (d : K) (left : List Goal) (now got : ℕ) → tells old.watch now d → left ≡ map leaving old.host.goals → got ≡ now
    → goes (got + giving_back) (record { port = old.port; watch = d; last = old.last; host = record { goals = left; node = old.host.node } }) new → Leaves tells goes old new
leaves_all tells goes old new d left now got told are gets on = record { now = now; read = d; told = told; goes_on = rw (← are, ← gets) on }
