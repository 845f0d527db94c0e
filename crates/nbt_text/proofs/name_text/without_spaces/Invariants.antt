use Rattle.std.proofs.Common.{◌≡◌, ◌-◌, ◌++◌, length}
use Rattle.std.specs.Prelude.{replicate}
use Rattle.nbt_text.specs.NameText.{space}
use Rattle.nbt_text.proofs.name_text.without_spaces.Given as goal

abbrev pub invariant-spaces : goal.invariant-spaces
invariant-spaces l = l.octets ≡ l.rest ++ replicate (length l.octets - length l.rest) space

abbrev pub decreases-spaces : goal.decreases-spaces
decreases-spaces l = length l.rest
