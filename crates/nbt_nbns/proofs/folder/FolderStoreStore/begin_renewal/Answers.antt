use Rattle.nbt_nbns.proofs.Folders.{folder_does}
use Rattle.nbt_nbns.proofs.folder.FolderStoreStore.begin_renewal.Goals as goal

pub returns : goal.returns
returns g c = folder_does _ _ _ _ _ c.self.view_is c.begin_renewal.ensures
