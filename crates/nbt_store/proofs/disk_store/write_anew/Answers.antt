use Rattle.std.proofs.Common.{List, ℕ, refl}
use Rattle.nbt_store.specs.DiskStores.{IsNewFile}
use Rattle.nbt_store.proofs.disk_store.write_anew.Goals as goal

pub returns : goal.returns
returns g c =
    let text : List ℕ = c.as_bytes.result.now in
    let file : IsNewFile text c.args.header.now c.args.rows.now c.in_ok-sum.sum = rw c.as_bytes.ensures.value (record { file = c.in_ok-sum.ensures.file; counted = c.in_ok-sum.ensures.counted; closed = c.in_ok-sum.ensures.closed }) in
    (text, file, (c.create.new.self, rw c.in_ok-create.was at c.create.ensures, (c.install.new.self, rw c.in_ok-install.was at c.install.ensures, refl)))
