use Rattle.nbt_store.proofs.Crashing.{asked_in_turn}
use Rattle.nbt_store.proofs.laws.calls_of_a_store_ask_in_turn.Goals as goal

pub returns : goal.returns
returns g c = asked_in_turn g.D.Disk.does
