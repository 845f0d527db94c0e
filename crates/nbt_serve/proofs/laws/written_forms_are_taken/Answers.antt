use Rattle.std.proofs.Common.{refl, arith}
use Rattle.nbt_packet.specs.Message.{registration, overwrite}
use Rattle.nbt_serve.specs.Samba.{by_opcode, by_group}
use Rattle.nbt_serve.proofs.laws.written_forms_are_taken.Goals as goal

pub returns-clause-by_opcode : goal.returns-clause-by_opcode
returns-clause-by_opcode c = λ r rest holds. (
  by_opcode (record { request = omega arith; opcode_is = refl; unicast = refl }) (c.written_form_is_read.ensures.spells (registration r) rest holds tt),
  refl,
)

pub returns-clause-by_group : goal.returns-clause-by_group
returns-clause-by_group c = λ r rest holds kind. (
  by_group (c.written_form_is_read.ensures.spells (overwrite r) rest holds tt) kind (c.written_form_is_read.ensures.spells (registration r) rest holds tt),
  refl,
)
