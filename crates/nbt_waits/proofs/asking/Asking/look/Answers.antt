use Rattle.std.proofs.Common.{◌≡◌, refl, sym, ap, subst, ◌∙◌}
use Rattle.nbt_packet.specs.declared.message.Registration.{Registration}
use Rattle.nbt_confirm.specs.declared.request.Request.{Request}
use Rattle.nbt_confirm.specs.Deciding.{AsksFirst}
use Rattle.nbt_waits.specs.Doing.{waits}
use Rattle.nbt_waits.proofs.Passing.{at_none}
use Rattle.nbt_waits.proofs.Reading.{none_some, some_is}
use Rattle.nbt_waits.proofs.asking.Asking.look.Goals as goal

pub returns-in_err-claim-clause-none : goal.returns-in_err-claim-clause-none
returns-in_err-claim-clause-none c = at_none c.from_residual.result (λ r awaits claims first. none_some (sym c.in_err-claim.was ∙ (c.claim_in.ensures r).1 claims), refl)

pub returns-in_err-awaits-clause-none : goal.returns-in_err-awaits-clause-none
returns-in_err-awaits-clause-none c =
    at_none c.from_residual-in_err-awaits.result (
      λ r awaits claims first.
          let same : c.in_ok-claim.claim ≡ r = some_is (sym c.in_ok-claim.was ∙ (c.claim_in.ensures r).1 claims) in
          c.in_err-awaits.ensures.none awaits (subst (λ (q : Registration). AsksFirst c.args.table.now c.args.now c.args.came.from q awaits) (sym same) first),
      refl,
    )

pub returns-clause-waits : goal.returns-clause-waits
returns-clause-waits c = record {
  r = c.in_ok-claim.claim;
  awaits = c.in_ok-awaits.awaits;
  claims = (c.claim_in.ensures c.in_ok-claim.claim).0 c.in_ok-claim.was;
  asks_first = c.in_ok-awaits.ensures.asks;
  done_is = c.wait.ensures ∙ ap (λ (r : Request). waits r c.args.self.now) c.request_of.ensures;
}
