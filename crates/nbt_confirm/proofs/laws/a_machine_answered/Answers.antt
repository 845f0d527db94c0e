use Rattle.nbt_confirm.proofs.Confirming.{heard}
use Rattle.nbt_confirm.proofs.laws.a_machine_answered.Goals as goal

pub returns : goal.returns
returns c = heard
