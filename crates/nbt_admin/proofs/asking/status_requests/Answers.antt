use Rattle.std.proofs.Common.{inl, inr, [], ◌∷◌, ◌++◌, ◌∙◌, ap, subst, Err}
use Rattle.std.proofs.lemmas.Result.{err_from_is_err_and, IfErr-weaker}
use Rattle.nbt_admin.specs.Asking.{ReadsHost}
use Rattle.nbt_admin.specs.Reading.{Each}
use Rattle.nbt_admin.proofs.asking.status_requests.Goals as goal

pub returns-in_err-request-clause-failure : goal.returns-in_err-request-clause-failure
returns-in_err-request-clause-failure c =
    let p = err_from_is_err_and c.from_residual.result c.from_residual.ensures.1 in
    rw (p.1, p.2) (inr (inl c.in_err-request.ensures))

pub returns-clause-failure : goal.returns-clause-failure
returns-clause-failure c =
    let first = c.args.texts.now.first in
    let others = c.args.texts.now.others.items in
    let one = c.in_ok-push.ensures.items ∙ ap (λ requests. requests ++ c.in_ok-request.request ∷ []) c.new-requests.ensures.items in
    IfErr-weaker c.read_each.result _ _
    (λ failure fails. inr (inr (
      c.in_ok-request.request,
      (
        c.in_ok-request.ensures,
        subst (λ requests. Each (ReadsHost first) requests others (Err failure)) one (subst (λ hosts. Each (ReadsHost first) c.push.new.self.items hosts (Err failure)) c.as_slice.ensures.value fails),
      ),
    )))
    c.read_each.ensures.failure
