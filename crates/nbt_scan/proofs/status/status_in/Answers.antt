use Rattle.std.proofs.Common.{refl, sym, subst}
use Rattle.std.proofs.lemmas.Option.{IfSome_then, same_Some, none-some}
use Rattle.nbt_packet.specs.Message.{MessageIs, message_of, status}
use Rattle.nbt_packet.specs.Packet.{PacketValue, PacketIs, packet_of}
use Rattle.nbt_scan.proofs.Answering.{is_status, is_none, one_packet, none_then}
use Rattle.nbt_scan.proofs.status.status_in.Goals as goal

pub returns-in_default-clause-none : goal.returns-in_default-clause-none
returns-in_default-clause-none c = λ names statistics is. let read = (c.in_default.ensures.packet is.packet is.taken).1 is.packet_is in absurd cc

pub returns-in_default-classify-clause-none : goal.returns-in_default-classify-clause-none
returns-in_default-classify-clause-none c = λ names statistics is.
    let same = one_packet (packet_of c.in-Ok.packet) is.packet c.in-Ok.field-0-1 is.taken ((c.in-Ok.ensures.packet is.packet is.taken).1 is.packet_is) in
    let said = (c.in_default-classify.ensures (status c.args.id is.name names)).1 (subst (λ (p : PacketValue). MessageIs p (status c.args.id is.name names)) same is.message_is) in absurd (none-some _ said)

pub returns-clause-found : goal.returns-clause-found
returns-clause-found c =
    let packet = packet_of c.in-Ok.packet in
    let message = message_of c.in-Some.message in
    let stands : PacketIs c.args.octets.now packet c.in-Ok.field-0-1 = (c.in-Ok.ensures.packet packet c.in-Ok.field-0-1).0 refl in
    let spells : MessageIs packet message = (c.in-Some.ensures message).0 refl in
    IfSome_then c.status_of.result c.status_of.ensures.found (λ s x. is_status c.args.id c.args.octets.now packet c.in-Ok.field-0-1 message stands spells
    (λ p n is. one_packet packet p c.in-Ok.field-0-1 n ((c.in-Ok.ensures.packet p n).1 is)) (λ said is. sym (same_Some message said ((c.in-Some.ensures said).1 is))) s.names.now s.statistics.now x)

pub returns-clause-none : goal.returns-clause-none
returns-clause-none c =
    let packet = packet_of c.in-Ok.packet in
    let message = message_of c.in-Some.message in
    let stands : PacketIs c.args.octets.now packet c.in-Ok.field-0-1 = (c.in-Ok.ensures.packet packet c.in-Ok.field-0-1).0 refl in
    let spells : MessageIs packet message = (c.in-Some.ensures message).0 refl in
    none_then c.status_of.result c.status_of.ensures.none (λ other. is_none c.args.id c.args.octets.now packet c.in-Ok.field-0-1 message stands spells
    (λ p n is. one_packet packet p c.in-Ok.field-0-1 n ((c.in-Ok.ensures.packet p n).1 is)) (λ said is. sym (same_Some message said ((c.in-Some.ensures said).1 is))) other)
