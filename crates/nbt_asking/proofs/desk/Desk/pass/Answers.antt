use Rattle.std.proofs.Common.{ap, ◌∙◌}
use Rattle.nbt_asking.specs.Desk.{any_under_way}
use Rattle.nbt_asking.proofs.Handing.{pass_aside, pass_none, pass_on}
use Rattle.nbt_asking.proofs.desk.Desk.pass.Goals as goal

pub returns-in_err-route : goal.returns-in_err-route
returns-in_err-route c = pass_none c.args.self.now c.args.flags c.args.from c.args.octets.now.items c.from_residual.result c.in_err-route.was c.from_residual.ensures

pub returns-then-is_aside : goal.returns-then-is_aside
returns-then-is_aside c =
    pass_aside c.args.self.now c.args.flags c.args.from c.args.octets.now.items c.in_ok-route.route c.is_under_way-is_asking.result c.is_aside.result c.as_slice.result.now c.in_ok-route.was c.as_slice.ensures.value
    (c.is_under_way-is_asking.ensures ∙ ap any_under_way c.pending.ensures) c.is_aside.ensures c.put.new.self c.as_slice-then-is_aside.result.now c.clear.new.self.items c.if-is_aside.true c.as_slice-then-is_aside.ensures.value c.put.ensures c.clear.ensures

pub returns : goal.returns
returns c =
    pass_on c.args.self.now c.args.flags c.args.from c.args.octets.now.items c.in_ok-route.route c.is_under_way-is_asking.result c.is_aside.result c.as_slice.result.now c.in_ok-route.was c.as_slice.ensures.value
    (c.is_under_way-is_asking.ensures ∙ ap any_under_way c.pending.ensures) c.is_aside.ensures (λ yes. let no = c.if-is_aside.false in absurd cc)
