use Rattle.std.proofs.Common.{sym}
use Rattle.nbt_confirm.specs.Waiting.{is_past}
use Rattle.nbt_confirm.specs.declared.request.Request.{Request}
use Rattle.nbt_waits.proofs.Passing.{at_none, none_waits}
use Rattle.nbt_waits.proofs.asking.Asking.wake.Goals as goal

pub returns-in_err-request-clause-none : goal.returns-in_err-request-clause-none
returns-in_err-request-clause-none c = at_none c.from_residual.result (none_waits (λ (r : Request). is_past c.args.now r.awaits) c.args.self.now c.wake.new.self (sym c.in_err-request.ensures.woken) c.in_err-request.ensures.requests)
