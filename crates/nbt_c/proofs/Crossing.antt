-- What crosses to C lies there as the header declares it: each field in its place.
use Rattle.std.proofs.Common.{◌≡◌, refl}
use Rattle.nbt_c.specs.contracts.serving.CLease.{struct as lease_struct}
use Rattle.nbt_c.specs.contracts.ends.CAddr.{struct as end_struct}
use Rattle.nbt_c.specs.contracts.ends.CConfig.{struct as config_struct}
use Rattle.nbt_c.specs.contracts.name.CName.{struct as name_struct}
use Rattle.nbt_c.specs.contracts.event.CEvent.{struct as event_struct}
use Rattle.nbt_c.specs.contracts.accepting.CAccept.{struct as accept_struct}
use Rattle.nbt_c.specs.contracts.datagram.CDgram.{struct as datagram_struct}
use Rattle.nbt_c.specs.contracts.packet.CPacket.{struct as packet_struct}
use Rattle.nbt_c.specs.contracts.pieces.CPart.{struct as part_struct}
use Rattle.nbt_c.specs.contracts.caller.CAnswer.{struct as answer_struct}
use Rattle.nbt_c.specs.contracts.listener.CEntry.{struct as entry_struct}

pub lease_lies : (lease : lease_struct.D) → lease_struct.as_values lease ≡ (lease.ip, (lease.kind, (lease.end, tt)))
lease_lies lease = refl

pub end_lies : (end : end_struct.D) → end_struct.as_values end ≡ (end.ip, (end.port, tt))
end_lies end = refl

pub config_lies : (config : config_struct.D) → config_struct.as_values config ≡ (config.life, (config.longest, (config.rows, tt)))
config_lies config = refl

pub name_lies : (name : name_struct.D) → name_struct.as_values name ≡ (name.octets, (name.scope_size, (name.scope, tt)))
name_lies name = refl

pub event_lies : (event : event_struct.D) → event_struct.as_values event ≡ (event.kind, (event.rcode, (event.cut, (event.seconds, (event.size, (event.name, tt))))))
event_lies event = refl

pub accept_lies : (accept : accept_struct.D) → accept_struct.as_values accept ≡ (accept.kind, (accept.code, (accept.id, (accept.to, (accept.source, (accept.destination, (accept.size, tt)))))))
accept_lies accept = refl

pub datagram_lies : (datagram : datagram_struct.D) → datagram_struct.as_values datagram ≡ (datagram.kind, (datagram.code, (datagram.first, (datagram.more, (datagram.id, (datagram.offset, (datagram.from, (datagram.source, (datagram.destination, (datagram.place, (datagram.size, tt)))))))))))
datagram_lies datagram = refl

pub packet_lies : (packet : packet_struct.D) → packet_struct.as_values packet ≡ (packet.kind, (packet.code, (packet.to, (packet.called, (packet.calling, tt)))))
packet_lies packet = refl

pub part_lies : (part : part_struct.D) → part_struct.as_values part ≡ (part.kind, (part.size, (part.packet, tt)))
part_lies part = refl

pub answer_lies : (answer : answer_struct.D) → answer_struct.as_values answer ≡ (answer.kind, (answer.failure, (answer.code, (answer.to, tt))))
answer_lies answer = refl

pub entry_lies : (entry : entry_struct.D) → entry_struct.as_values entry ≡ (entry.called, (entry.by_one, (entry.calling, (entry.elsewhere, (entry.retarget, tt)))))
entry_lies entry = refl
