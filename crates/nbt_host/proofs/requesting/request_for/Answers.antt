use Rattle.std.proofs.Common.{◌∙◌, sym, ap}
use Rattle.nbt_host.specs.Hosting.{is_wanted, backs_off}
use Rattle.nbt_host.proofs.Orders.{not_wanted, asked_by, released_by}
use Rattle.nbt_host.proofs.requesting.request_for.Goals as goal

pub returns-in-Wanted : goal.returns-in-Wanted
returns-in-Wanted g c = backs_off (ap is_wanted c.in-Wanted.is) (sym c.may_ask.ensures ∙ c.if-not-may_ask.true)

pub returns-in-Wanted-2 : goal.returns-in-Wanted-2
returns-in-Wanted-2 g c =
    let e = c.ask.ensures in
    rw c.is_ok.ensures.value (asked_by c.args.now c.args.node.now c.ask.new.self c.args.goal.now c.ask.new.out.items c.ask.result (ap is_wanted c.in-Wanted-2.is) (sym c.may_ask.ensures ∙ c.if-not-may_ask.false) (rw c.lend.ensures at e.refused) (rw c.lend.ensures at e.ok) e.err)

pub returns-in_default : goal.returns-in_default
returns-in_default g c =
    let e = c.release.ensures in
    rw c.is_ok-in_default.ensures.value (released_by c.args.now c.args.node.now c.release.new.self c.args.goal.now c.release.new.out.items c.release.result (not_wanted c.args.goal.now.stage c.in_default.not-Wanted) (rw c.lend-in_default.ensures at e.refused) (rw c.lend-in_default.ensures at e.ok) e.err)
