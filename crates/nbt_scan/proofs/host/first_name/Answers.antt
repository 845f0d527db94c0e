use Rattle.std.proofs.Common.{◌∙◌, sym, arith}
use Rattle.nbt_scan.specs.Hosts.{passes}
use Rattle.nbt_scan.proofs.Firsts.{next_fails, next_passes, none_passes}
use Rattle.nbt_scan.proofs.host.first_name.Goals as goal

pub names-init : goal.names-init
names-init c = λ found is. is

pub returns-then-passes : goal.returns-then-passes
returns-then-passes c =
    let split = c.in-Some.ensures.cases in
    next_passes (passes c.args.wanted) c.args.names.now c.names.rest.now c.in-Some.name.now c.in-Some.others.now split.0 split.1 (omega (arith, split.2)) c.names.invariant (sym c.passes.ensures ∙ c.if-passes.true)

pub names-preserved : goal.names-preserved
names-preserved c =
    let split = c.in-Some.ensures.cases in
    next_fails (passes c.args.wanted) c.args.names.now c.names.rest.now c.in-Some.name.now c.in-Some.others.now split.0 split.1 (omega (arith, split.2)) c.names.invariant (sym c.passes.ensures ∙ c.if-passes.false)

pub returns : goal.returns
returns c = none_passes (passes c.args.wanted) c.args.names.now c.names.rest.now c.in_default.ensures.cases c.names.invariant
