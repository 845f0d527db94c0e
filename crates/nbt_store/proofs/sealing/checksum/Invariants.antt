use Rattle.std.proofs.Common.{◌≡◌, ◌<◌, ◌^◌}
use Rattle.std.specs.Prelude.{fold, take}
use Rattle.nbt_store.specs.Checksum.{with_octet}
use Rattle.nbt_store.proofs.sealing.checksum.Given as goal

abbrev pub invariant-loop-octet : goal.invariant-loop-octet
invariant-loop-octet l = (l.sum ≡ fold with_octet l.before (take l.octet-index l.octets)) × (l.sum < 2 ^ 32)
