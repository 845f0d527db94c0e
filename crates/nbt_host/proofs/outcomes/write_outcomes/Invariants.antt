use Rattle.std.proofs.Common.{take}
use Rattle.std.specs.String.{string_bytes}
use Rattle.nbt_host.proofs.Lines.{Told}
use Rattle.nbt_host.specs.Outcomes.{IsOutcomeLine}
use Rattle.nbt_host.proofs.outcomes.write_outcomes.Given as goal

abbrev pub invariant-loop-release : goal.invariant-loop-release
invariant-loop-release l = Told IsOutcomeLine (take l.release-index l.releases) (string_bytes l.fn.out) (string_bytes l.out)
