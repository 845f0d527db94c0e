use Rattle.std.proofs.Common.{◌++◌, ℕ, List, take, sym, subst, arith}
use Rattle.std.specs.List.{flat_map}
use Rattle.std.proofs.lemmas.List.{take_all}
use Rattle.nbt_confirm.specs.Waiting.{IsFirst, end_in}
use Rattle.nbt_confirm.specs.declared.request.Request.{Request}
use Rattle.nbt_confirm.proofs.Times.{flat_more}
use Rattle.nbt_confirm.proofs.waits.first_end.Goals as goal

pub loop-request-preserved : goal.loop-request-preserved
loop-request-preserved c times first =
    subst (λ (ts : List ℕ). IsFirst ts c.with_end-first.result) (sym (flat_more (λ (r : Request). end_in r.awaits) times c.args.requests.now c.loop-request.request-index c.request-item.result (omega arith) c.request-item.is))
    (c.with_end-first.ensures (times ++ flat_map (λ (r : Request). end_in r.awaits) (take c.loop-request.request-index c.args.requests.now)) (c.loop-request.invariant times first))

pub returns : goal.returns
returns c times first =
    subst (λ (rs : List Request). IsFirst (times ++ flat_map (λ (r : Request). end_in r.awaits) rs) c.loop-request.first) (take_all c.loop-request.request-index c.args.requests.now (omega arith))
    (c.loop-request.invariant times first)
