use Rattle.std.proofs.Common.{sym, ap, ◌∙◌}
use Rattle.nbt_name.specs.Wire.{NameValue}
use Rattle.nbt_packet.specs.declared.message.Message.{Message}
use Rattle.nbt_packet.specs.Message.{message_of, released}
use Rattle.nbt_waits.specs.Sending.{leaves}
use Rattle.nbt_waits.proofs.sending.reply_in.Goals as goal

pub returns-in-Released : goal.returns-in-Released
returns-in-Released c =
    let r = c.in-Released in
    c.of_released.ensures c.args.now c.args.octets.now
    ∙ (ap (λ (name : NameValue). leaves c.args.now c.args.ip c.args.octets.now c.args.further.now (released r.id r.rcode name r.kind r.addr)) c.to_name.ensures
    ∙ sym (ap (λ (m : Message). leaves c.args.now c.args.ip c.args.octets.now c.args.further.now (message_of m)) r.is))
