use Rattle.nbt_store.proofs.Members.{changes_append}
use Rattle.nbt_store.proofs.laws.changes_go_in_turn.Goals as goal

pub returns : goal.returns
returns c = changes_append
