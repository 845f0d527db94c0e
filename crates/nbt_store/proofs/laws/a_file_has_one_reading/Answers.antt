use Rattle.nbt_store.proofs.OneReading.{file_one}
use Rattle.nbt_store.proofs.laws.a_file_has_one_reading.Goals as goal

pub returns : goal.returns
returns c = file_one
