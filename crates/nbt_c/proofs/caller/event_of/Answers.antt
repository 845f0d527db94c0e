use Rattle.nbt_c.proofs.Common.{arith, packet_of}
use Rattle.nbt_c.specs.Calling as is
use Rattle.nbt_c.proofs.caller.event_of.Goals as goal

pub returns-in-0-clause-event : goal.returns-in-0-clause-event
returns-in-0-clause-event c = is.IsEvent.is_connected c.in-0.is

pub returns-in-Ok-clause-event : goal.returns-in-Ok-clause-event
returns-in-Ok-clause-event c = is.IsEvent.has_come (packet_of c.in-Ok.packet) c.in-1.is c.in-Ok.ensures.packet

pub returns-in-Err-clause-fault : goal.returns-in-Err-clause-fault
returns-in-Err-clause-fault c = is.EventFault.packet_bad c.in-Err.number c.in-1.is c.in-Err.ensures.fault

pub returns-in-2-clause-event : goal.returns-in-2-clause-event
returns-in-2-clause-event c = is.IsEvent.is_lost c.in-2.is

pub returns-in_default-clause-fault : goal.returns-in_default-clause-fault
returns-in_default-clause-fault c = is.EventFault.is_none (λ e. omega (arith, e)) (λ e. omega (arith, e)) (λ e. omega (arith, e))
