use Rattle.std.proofs.Common.{arith}
use Rattle.std.proofs.lemmas.List.Edits.{map_over_more}
use Rattle.nbt_packet.specs.Message.{message_if}
use Rattle.nbt_host.specs.Releases.{answered}
use Rattle.nbt_host.proofs.release_hearing.take_all.Goals as goal

pub loop-release-preserved : goal.loop-release-preserved
loop-release-preserved c =
    rw (c.take.ensures, ← c.release-item.is) (map_over_more (answered (message_if c.args.message.now)) c.args.releases.now c.loop-release.releases c.loop-release.release-index c.release-item.result (omega arith) c.loop-release.invariant c.release-item.is)
