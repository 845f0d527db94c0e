-- A store in a folder of the system: how it is opened, and what each of its calls asks of its disk (our profile).
use Rattle.std.specs.Prelude.{◌≡◌, ℕ, Bool, true, false, List, []}
use Rattle.nbt_lease.specs.Lease.{Rows}
use Rattle.nbt_store.specs.Calls.{StoreCall, has_failed}
use Rattle.nbt_store.specs.DiskCalls.{DiskCall}
use Rattle.nbt_store.specs.DiskStores.{Asks, IsNewFile, Tail, is_broken, tail_at, tail_of}
use Rattle.nbt_store.specs.declared.disk_store.DiskStore.{DiskStore}
use Rattle.nbt_store.specs.declared.header.Header.{Header}

-- What a contract sees of it: where it goes on, and whether a call has failed. What its files keep no contract can say.
pub record FolderValue : Type 0 where
  pub tail : Tail
  pub broken : Bool

abbrev pub folder_value : {D : Type 0} → DiskStore D → FolderValue
folder_value store = record { tail = tail_of store; broken = is_broken store }

-- It was opened with this header and these leases: it wrote a new file of them, goes on behind the last line of it, and no call has failed.
pub record IsOpenedWith (header : Header) (rows : Rows) (folder : FolderValue) : Type 0 where
  pub text : List ℕ
  pub sum : ℕ
  pub new_file : IsNewFile text header rows sum
  pub folder_is : folder ≡ record { tail = tail_at sum; broken = false }

-- A call asks of its disk what such a call asks, which is seen by where it goes on. It is broken afterwards exactly if the call failed, and where it
-- was broken it asks nothing.
pub record FolderDoes (old : FolderValue) (call : StoreCall) (new : FolderValue) : Type 0 where
  pub asked : List DiskCall
  pub asks : Asks call old.tail asked new.tail
  pub breaks : new.broken ≡ has_failed call
  pub nothing : old.broken ≡ true → asked ≡ []
