use Rattle.std.proofs.Common.{Err}
use Rattle.std.proofs.lemmas.Result.{err_from_is_err_and}
use Rattle.nbt_port.specs.PortCalls.{receiving}
use Rattle.nbt_front.specs.FrontPort.{hands_on}
use Rattle.nbt_front.proofs.Passing.{failed_leaves, not_received}
use Rattle.nbt_front.proofs.port.FrontPortPort.receive_now.Goals as goal

pub returns-in_err-from-clause-does : goal.returns-in_err-from-clause-does
returns-in_err-from-clause-does g c =
    let p = err_from_is_err_and c.from_residual.result c.from_residual.ensures.1 in
    let desk = c.self.inside.desk in
    let octets = c.receive_now.new.octets.items in
    rw (p.1, c.clear.ensures, ← c.self.view_is) (hands_on 0 (receiving (Err p.0) octets) c.receive_now.new.self desk.kept c.in_err-from.ensures.does (not_received desk 0 p.0 octets) (failed_leaves desk.kept p.0 octets))

pub returns-clause-does : goal.returns-clause-does
returns-clause-does g c = rw (← c.self.view_is) (let does = rw c.clear.ensures at c.pass.ensures.does in does c.self.inside.beneath c.in_ok-from.ensures.does)
