use Rattle.std.specs.Prelude.{Result, Ok, Err, MatchResult, ⊤}
use Rattle.nbt_port.proofs.monotonic.AnyMonotonic.since_boot.Goals as goal

-- whatever a reading is, a contract says nothing of it
any_reading : {A B : Type 0} (reading : Result A B) → MatchResult reading (λ _. ⊤) (λ _. ⊤)
any_reading (Ok since) = tt
any_reading (Err error) = tt

pub returns : goal.returns
returns g c = any_reading c.monotonic.result
