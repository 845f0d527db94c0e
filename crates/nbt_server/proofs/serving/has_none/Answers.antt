use Rattle.std.proofs.Common.{refl}
use Rattle.nbt_server.proofs.Common.{leases_at}
use Rattle.nbt_server.proofs.Rules.{none_next, one_there, none_there}
use Rattle.nbt_server.proofs.serving.has_none.Goals as goal

pub loop-lease-init : goal.loop-lease-init
loop-lease-init c = rw (c.into_iter-lease-iterator.ensures.into_iter_gives, c.members-lease-items.ensures.members) (tt, tt, (λ none. none, λ none. none))

pub loop-lease-preserved : goal.loop-lease-preserved
loop-lease-preserved c = (tt, tt, none_next c.args.ip (leases_at c.args.now c.args.table.now.rows c.args.name.now) c.loop-lease.lease-iterator c.next.new.self c.in-Some.lease c.in-Some.ensures.steps c.if-lease-ip.false c.loop-lease.invariant.2)

pub returns-then-lease-ip : goal.returns-then-lease-ip
returns-then-lease-ip c =
    let there = one_there c.args.ip (leases_at c.args.now c.args.table.now.rows c.args.name.now) c.loop-lease.lease-iterator c.next.new.self c.in-Some.lease c.in-Some.ensures.steps c.if-lease-ip.true c.loop-lease.invariant.2 in
    (λ never. absurd cc, λ none. absurd (there none))

pub returns : goal.returns
returns c = (λ all. none_there c.args.ip (leases_at c.args.now c.args.table.now.rows c.args.name.now) c.loop-lease.lease-iterator c.in-None.ensures.steps.0 c.loop-lease.invariant.2, λ none. refl)
