use Rattle.std.proofs.Common.{refl}
use Rattle.nbt_store.proofs.disk_store.DiskStore.open.Goals as goal

pub returns : goal.returns
returns g c =
    let there = c.in_ok-sum.ensures in
    (there.0, c.in_ok-sum.sum, there.1, there.2, refl, refl, refl, refl)
