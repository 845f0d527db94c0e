use Rattle.std.proofs.Common.{ℕ, ◌+◌, ◌≤◌, List, length}
use Rattle.nbt_name.proofs.Common.{HasPassed, spot_of}
use Rattle.nbt_name.proofs.Scoped.{left}
use Rattle.nbt_name.proofs.Counts.{OnPath, IsCounted}
use Rattle.nbt_name.proofs.reading.pass.Given as goal

abbrev pub invariant-steps : goal.invariant-steps
invariant-steps g l = record {
  scope : List ℕ;
  size : HasPassed l.reader scope;
  on_path : OnPath l.form l.octets l.place l.initial.steps (spot_of l.reader scope) l.steps;
  within : l.reader.place ≤ length l.octets;
  counted : IsCounted l.octets (l.initial.steps + l.place) (spot_of l.reader scope) l.steps;
}

abbrev pub decreases-steps : goal.decreases-steps
decreases-steps g l = left l.octets l.reader
