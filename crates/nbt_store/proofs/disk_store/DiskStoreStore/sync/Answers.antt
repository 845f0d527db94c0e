use Rattle.std.proofs.Common.{◌≡◌, ◌∙◌, false, sym}
use Rattle.nbt_store.specs.DiskStores.{is_broken}
use Rattle.nbt_store.proofs.Asking.{sync_does}
use Rattle.nbt_store.proofs.disk_store.DiskStoreStore.sync.Goals as goal

pub returns : goal.returns
returns g c =
    let whole : is_broken c.args.self.now ≡ false = sym c.is_some.ensures ∙ c.if-is_some.false in
    sync_does g.D.Disk.does c.args.self.now c.note.new.self c.sync-done.new.self c.sync-done.result c.note.result c.sync-done.ensures c.note.ensures.disk whole (c.note.ensures.broken whole) c.note.ensures.result c.note.ensures.tail c.note.ensures.written c.note.ensures.lines
