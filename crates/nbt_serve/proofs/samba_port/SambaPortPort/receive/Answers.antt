use Rattle.std.proofs.Common.{Ok, Err}
use Rattle.std.proofs.lemmas.Result.{err_from_is_err_and}
use Rattle.nbt_port.specs.PortCalls.{receiving}
use Rattle.nbt_serve.specs.SambaPort.{unchanged}
use Rattle.nbt_serve.proofs.SambaTaken.{failed_is_other}
use Rattle.nbt_serve.proofs.samba_port.SambaPortPort.receive.Goals as goal

pub returns-in_err-from-clause-does : goal.returns-in_err-from-clause-does
returns-in_err-from-clause-does g c =
    let p = err_from_is_err_and c.from_residual.result c.from_residual.ensures.1 in
    rw p.1 (record {
      beneath = receiving (Err p.0) c.receive.new.octets.items;
      did = rw (← c.self.view_is) c.in_err-from.ensures.does;
      becomes = unchanged (receiving (Err p.0) c.receive.new.octets.items) (failed_is_other c.receive.new.octets.items p.0);
    })

pub returns-clause-does : goal.returns-clause-does
returns-clause-does g c = record {
  beneath = receiving (Ok c.in_ok-from.from) c.receive.new.octets.items;
  did = rw (← c.self.view_is) c.in_ok-from.ensures.does;
  becomes = c.hand_on.ensures;
}
