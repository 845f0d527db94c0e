use Rattle.nbt_nbns.proofs.Folders.{folder_does}
use Rattle.nbt_nbns.proofs.folder.FolderStoreStore.append.Goals as goal

pub returns : goal.returns
returns g c = folder_does _ _ _ _ _ c.self.view_is c.append.ensures
