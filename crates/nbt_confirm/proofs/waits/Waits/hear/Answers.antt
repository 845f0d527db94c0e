use Rattle.std.proofs.Common.{ap}
use Rattle.nbt_confirm.specs.Inquiries.{response_of}
use Rattle.nbt_confirm.specs.Waiting.{WaitsValue}
use Rattle.nbt_confirm.proofs.Hearing.{hears_answered, hears_nothing, hears_unasked}
use Rattle.nbt_confirm.proofs.waits.Waits.hear.Goals as goal

pub returns-in_err-response-clause-pending : goal.returns-in_err-response-clause-pending
returns-in_err-response-clause-pending c = hears_nothing c.args.from c.args.octets.now c.args.self.now.pending c.from_residual.result c.in_err-response.ensures.none c.from_residual.ensures

pub returns-in_err-pending-clause-pending : goal.returns-in_err-pending-clause-pending
returns-in_err-pending-clause-pending c =
    hears_unasked c.args.from c.args.octets.now c.args.self.now.pending c.self.inside.pending.items c.take_answered.new.pending.items (response_of c.in_ok-response.response) c.from_residual-in_err-pending.result
    c.in_ok-response.ensures.response (ap (λ (w : WaitsValue). w.pending) c.self.view_is) c.in_err-pending.ensures.found c.take_answered.ensures.left c.from_residual-in_err-pending.ensures

pub returns-clause-pending : goal.returns-clause-pending
returns-clause-pending c =
    hears_answered c.args.from c.args.octets.now c.args.self.now.pending c.self.inside.pending.items c.take_answered.new.pending.items (response_of c.in_ok-response.response) c.in_ok-pending.pending c.by.result
    c.in_ok-response.ensures.response (ap (λ (w : WaitsValue). w.pending) c.self.view_is) c.in_ok-pending.ensures.found c.take_answered.ensures.left c.by.ensures
