-- What a call of a store in a folder does, as the store over its disk does it.
use Rattle.std.proofs.Common.{◌≡◌, ℕ, false, List, subst}
use Rattle.nbt_lease.specs.Lease.{Rows}
use Rattle.nbt_store.specs.Calls.{StoreCall}
use Rattle.nbt_store.specs.DiskCalls.{DiskCall}
use Rattle.nbt_store.specs.DiskStores.{IsNewFile, StoreDoes, is_broken, tail_at, tail_of}
use Rattle.nbt_store.specs.declared.disk_store.DiskStore.{DiskStore}
use Rattle.nbt_store.specs.declared.header.Header.{Header}
use Rattle.nbt_nbns.specs.Folders.{FolderDoes, FolderValue, IsOpenedWith, folder_value}

pub folder_does : {D : Type 0} (does : D → DiskCall → D → Type 0) (before : FolderValue) (old new : DiskStore D) (call : StoreCall) → folder_value old ≡ before → StoreDoes does old call new → FolderDoes before call (folder_value new)
folder_does does before old new call same did = subst (λ (f : FolderValue). FolderDoes f call (folder_value new)) same (record { asked = did.asked; asks = did.asks; breaks = did.breaks; nothing = did.nothing })

pub opened_with : {D : Type 0} (header : Header) (rows : Rows) (text : List ℕ) (sum : ℕ) (store : DiskStore D) → IsNewFile text header rows sum → tail_of store ≡ tail_at sum → is_broken store ≡ false → IsOpenedWith header rows (folder_value store)
opened_with header rows text sum store new_file goes_on whole = record { text = text; sum = sum; new_file = new_file; folder_is = cc }
