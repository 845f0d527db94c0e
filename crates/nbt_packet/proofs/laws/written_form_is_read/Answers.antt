use Rattle.nbt_packet.proofs.ReadBack.{text_is_read}
use Rattle.nbt_packet.proofs.laws.written_form_is_read.Goals as goal

pub returns-clause-spells : goal.returns-clause-spells
returns-clause-spells c = λ m rest holds fits.
    let read = text_is_read m rest holds fits in
    record { packet = read.0; taken = _; packet_is = read.1; message_is = read.2 }

pub returns-clause-whole : goal.returns-clause-whole
returns-clause-whole c = text_is_read
