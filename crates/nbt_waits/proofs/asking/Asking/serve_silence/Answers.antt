use Rattle.std.specs.List.{find}
use Rattle.nbt_confirm.specs.declared.outcome.Answer.TheVariants.{Silent}
use Rattle.nbt_confirm.specs.declared.request.Request.{Request}
use Rattle.nbt_confirm.specs.Waiting.{served_by}
use Rattle.nbt_waits.specs.Settling.{waited_for}
use Rattle.nbt_waits.proofs.Passing.{at_none, none_served, none_waits}
use Rattle.nbt_waits.proofs.asking.Asking.serve_silence.Goals as goal

pub returns-in_err-served-clause-none : goal.returns-in_err-served-clause-none
returns-in_err-served-clause-none c =
    let test = waited_for c.args.silence.now in
    let none = none_served (served_by (λ (r : Request). Silent)) (find test c.args.self.now.waits.requests) c.in_err-served.ensures.served in
    at_none c.from_residual.result (none_waits test c.args.self.now c.serve_silence.new.self none c.in_err-served.ensures.requests)
