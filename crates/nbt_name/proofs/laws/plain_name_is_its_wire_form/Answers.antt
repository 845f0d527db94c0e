use Rattle.nbt_name.proofs.PlainForms.{plain_is_wire, plain_takes_wire}
use Rattle.nbt_name.proofs.laws.plain_name_is_its_wire_form.Goals as goal

pub returns-clause-octets : goal.returns-clause-octets
returns-clause-octets c = plain_is_wire

pub returns-clause-length : goal.returns-clause-length
returns-clause-length c = plain_takes_wire
