use Rattle.std.proofs.Common.{◌≡◌, take}
use Rattle.nbt_host.specs.Releases.{fresh_all}
use Rattle.nbt_host.proofs.release_running.releases_of.Given as goal

abbrev pub invariant-loop-i : goal.invariant-loop-i
invariant-loop-i l = l.releases.items ≡ fresh_all l.number (take l.i l.wants)
