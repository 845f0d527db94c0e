-- What happens to a session's connection, as a value.
use Rattle.nbt_session.specs.declared.event.Event.{Event}
use Rattle.nbt_session.specs.declared.event.Event.TheVariants as events
use Rattle.nbt_session.specs.Packet.{PacketValue, packet_of}

pub data EventValue : Type 0 where
  connected : EventValue
  packet : PacketValue → EventValue
  lost : EventValue

abbrev pub event_of : Event → EventValue
event_of events.Connected = connected
event_of (events.Packet p) = packet (packet_of p)
event_of events.Lost = lost
