-- What a crash leaves of a disk: the premise on disks (our profile).
use Rattle.std.specs.Prelude.{◌≡◌, ◌≤◌, ℕ, Option, Some, None, List, [], ◌∷◌, ◌++◌, length, take}
use Rattle.nbt_store.specs.DiskCalls.{DiskCall, created, create_failed, added_beside, add_beside_failed, installed, install_failed, added, add_failed, flushed, flush_failed}

-- a file, and how many octets of it, from the first one on, every crash keeps
pub record Written : Type 0 where
  pub octets : List ℕ
  pub synced : ℕ

-- the file of a folder, and the new one beside it, if there is one
pub record Folder : Type 0 where
  pub file : Written
  pub beside : Option Written

abbrev pub more : List ℕ → Written → Written
more octets written = record { octets = written.octets ++ octets; synced = written.synced }

abbrev pub all_synced : Written → Written
all_synced written = record { octets = written.octets; synced = length written.octets }

-- the new file, if there is one, changed so
abbrev pub changed : (Written → Written) → Option Written → Option Written
changed change None = None
changed change (Some new) = Some (change new)

-- the new file, if there is one, in the place of the old one
abbrev pub in_place : (file : Written) → (beside : Option Written) → Folder
in_place file None = record { file = file; beside = None }
in_place file (Some new) = record { file = new; beside = None }

-- The folder after a call. Of a write that failed any part may have been written: nothing of it is synced.
abbrev pub after_disk_call : DiskCall → Folder → Folder
after_disk_call (created octets) folder = record { file = folder.file; beside = Some (record { octets = octets; synced = length octets }) }
after_disk_call (create_failed octets) folder = record { file = folder.file; beside = Some (record { octets = octets; synced = 0 }) }
after_disk_call (added_beside octets) folder = record { file = folder.file; beside = changed (λ new. all_synced (more octets new)) folder.beside }
after_disk_call (add_beside_failed octets) folder = record { file = folder.file; beside = changed (more octets) folder.beside }
after_disk_call installed folder = in_place folder.file folder.beside
after_disk_call install_failed folder = folder
after_disk_call (added octets) folder = record { file = more octets folder.file; beside = folder.beside }
after_disk_call (add_failed octets) folder = record { file = more octets folder.file; beside = folder.beside }
after_disk_call flushed folder = record { file = all_synced folder.file; beside = folder.beside }
after_disk_call flush_failed folder = folder

abbrev pub after_disk_calls : List DiskCall → Folder → Folder
after_disk_calls [] folder = folder
after_disk_calls (call ∷ calls) folder = after_disk_calls calls (after_disk_call call folder)

-- a folder with one file, all of which is synced
abbrev pub folder_of : List ℕ → Folder
folder_of octets = record { file = record { octets = octets; synced = length octets }; beside = None }

-- of a file a crash leaves what was synced, and any part of what stands behind that
pub record IsCutOf (written : Written) (left : List ℕ) : Type 0 where
  pub size : ℕ
  pub at_least : written.synced ≤ size
  pub left_is : left ≡ take size written.octets

-- The premise on a disk: what a crash leaves as the file, after these calls or within the last of them where that one failed. It
-- is the file, cut; or the new file, where it was last to take the old one's place, and that failed.
pub data CrashLeaves (folder : Folder) (calls : List DiskCall) (left : List ℕ) : Type 0 where
  old_file : IsCutOf (after_disk_calls calls folder).file left → CrashLeaves folder calls left
  new_file : (before : List DiskCall) (new : Written) → calls ≡ before ++ install_failed ∷ [] → (after_disk_calls calls folder).beside ≡ Some new → IsCutOf new left → CrashLeaves folder calls left
