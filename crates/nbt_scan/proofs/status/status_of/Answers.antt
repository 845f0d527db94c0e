use Rattle.std.proofs.Common.{refl}
use Rattle.nbt_packet.specs.Message.{MessageIs, status, internet_record, nbstat}
use Rattle.nbt_packet.specs.Packet.{packet_of}
use Rattle.nbt_scan.proofs.status.status_of.Goals as goal

pub returns-clause-found : goal.returns-clause-found
returns-clause-found c =
    let m = c.in-Status in
    let is : MessageIs (packet_of c.args.packet.now) (status m.told m.name m.names.now) = rw m.is at c.requires in
    let answer = internet_record m.name nbstat is.3 is.4 in
    (m.name, answer, rw (m.is, c.if-told-id.false) refl, is.5.answer_is, c.statistics_of.ensures answer is.5.answer_is)
