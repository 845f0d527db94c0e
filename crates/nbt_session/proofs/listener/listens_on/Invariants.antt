use Rattle.std.proofs.Common.{◌≡◌, ℕ, ◌<◌, false, Option, get_or}
use Rattle.nbt_session.specs.declared.listener.Entry.{Entry}
use Rattle.nbt_session.specs.Inner.Listening.{is_for}
use Rattle.nbt_session.proofs.listener.listens_on.Given as goal

abbrev pub invariant-loop-place : goal.invariant-loop-place
invariant-loop-place l = (k : ℕ) (d : Option Entry) → k < l.place-index → is_for (get_or l.entries k d) l.called ≡ false
