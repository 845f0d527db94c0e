use Rattle.std.proofs.Common.{◌≡◌, [], length}
use Rattle.nbt_session.specs.Parts.{between}
use Rattle.nbt_show.proofs.explain.session.explain_session.Given as goal

abbrev pub invariant-packets : goal.invariant-packets
invariant-packets l = l.pieces ≡ between []

abbrev pub decreases-packets : goal.decreases-packets
decreases-packets l = length l.rest
