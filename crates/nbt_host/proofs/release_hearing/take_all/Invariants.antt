use Rattle.std.proofs.Common.{◌≡◌, ◌++◌, map, take, drop}
use Rattle.nbt_packet.specs.Message.{message_if}
use Rattle.nbt_host.specs.Releases.{answered}
use Rattle.nbt_host.proofs.release_hearing.take_all.Given as goal

abbrev pub invariant-loop-release : goal.invariant-loop-release
invariant-loop-release l = l.releases ≡ map (answered (message_if l.message)) (take l.release-index l.initial.releases) ++ drop l.release-index l.initial.releases
