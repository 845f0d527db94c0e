use Rattle.nbt_nbns.proofs.Folders.{opened_with}
use Rattle.nbt_nbns.proofs.folder.FolderStore.open.Goals as goal

pub returns : goal.returns
returns g c = let is = c.in_ok-store.ensures in opened_with _ _ is.0 is.1 c.in_ok-store.store is.2 is.4 is.5
