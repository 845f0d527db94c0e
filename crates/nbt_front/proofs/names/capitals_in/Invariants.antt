use Rattle.std.proofs.Common.{◌≡◌, ◌++◌, length}
use Rattle.nbt_front.specs.FixedNames.{capitals_of}
use Rattle.nbt_front.proofs.names.capitals_in.Given as goal

abbrev pub invariant-names : goal.invariant-names
invariant-names l = l.capitals ++ capitals_of l.rest ≡ capitals_of l.names.entries

abbrev pub decreases-names : goal.decreases-names
decreases-names l = length l.rest
