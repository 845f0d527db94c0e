use Rattle.std.proofs.Common.{◌≡◌, map, take}
use Rattle.nbt_host.specs.Goals.{wanted}
use Rattle.nbt_host.proofs.host.goals_of.Given as goal

abbrev pub invariant-loop-want : goal.invariant-loop-want
invariant-loop-want l = l.goals.items ≡ map (wanted l.config) (take l.want-index l.wants)
