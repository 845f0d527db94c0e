use Rattle.nbt_name.proofs.WireForms.{wire_apart}
use Rattle.nbt_name.proofs.laws.no_wire_form_begins_another.Goals as goal

pub returns : goal.returns
returns c = wire_apart
