use Rattle.nbt_c.proofs.Common.{◌≡◌, ℕ, List, ◌++◌, ap, ◌∙◌, wire}
use Rattle.nbt_c.proofs.Framed.{request_is}
use Rattle.nbt_c.proofs.framing.put_names.Goals as goal

pub returns : goal.returns
returns c =
    let first = c.put_wire.ensures.form ∙ ap (λ (xs : List ℕ). xs ++ wire c.args.called.now) c.new-body.ensures in
    let body : c.as_slice.result.now ≡ wire c.args.called.now ++ wire c.args.calling.now =
    c.as_slice.ensures.value ∙ c.put_wire-2.ensures.form ∙ ap (λ (xs : List ℕ). xs ++ wire c.args.calling.now) first in
    request_is c.args.called.now c.args.calling.now c.as_slice.result.now c.frame.new.out.items c.frame.ensures body
