use Rattle.nbt_name.specs.declared.addr.Kind.TheVariants.{Unique, Group}
use Rattle.nbt_store.proofs.WordLists.{kind_is_word}
use Rattle.nbt_store.proofs.writing.add_kind.Goals as goal

pub push_word-requires : goal.push_word-requires
push_word-requires c = kind_is_word Unique

pub push_word-requires-in-Group : goal.push_word-requires-in-Group
push_word-requires-in-Group c = kind_is_word Group

pub returns-in-Unique : goal.returns-in-Unique
returns-in-Unique c = rw c.in-Unique.is c.push_word.ensures

pub returns-in-Group : goal.returns-in-Group
returns-in-Group c = rw c.in-Group.is c.push_word-in-Group.ensures
