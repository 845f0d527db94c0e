use Rattle.std.proofs.Common.{◌≡◌, ℕ, ◌<◌, Option, Some, get_or}
use Rattle.nbt_session.specs.declared.listener.Entry.{Entry}
use Rattle.nbt_session.specs.Listener.{TakesCall}
use Rattle.nbt_session.proofs.listener.first_that_takes.Given as goal

abbrev pub invariant-loop-place : goal.invariant-loop-place
invariant-loop-place l = (k : ℕ) (d : Option Entry) (e : Entry) → k < l.place-index → get_or l.entries k d ≡ Some e → ¬ TakesCall e l.called l.calling
