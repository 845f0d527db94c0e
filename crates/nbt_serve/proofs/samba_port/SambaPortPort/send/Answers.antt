use Rattle.nbt_port.specs.PortCalls.{sending}
use Rattle.nbt_serve.specs.SambaPort.{unchanged}
use Rattle.nbt_serve.proofs.SambaTaken.{sent_is_other}
use Rattle.nbt_serve.proofs.samba_port.SambaPortPort.send.Goals as goal

pub returns-clause-does : goal.returns-clause-does
returns-clause-does g c = record {
  beneath = sending c.args.to c.args.octets.now c.send.result;
  did = rw (← c.self.view_is) c.send.ensures.does;
  becomes = unchanged (sending c.args.to c.args.octets.now c.send.result) (sent_is_other c.args.to c.args.octets.now c.send.result);
}
