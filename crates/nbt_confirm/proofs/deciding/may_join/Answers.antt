use Rattle.std.proofs.Common.{refl}
use Rattle.nbt_lease.specs.Lease.{leases_at}
use Rattle.nbt_confirm.proofs.Claimed.{join_next, join_none, join_one}
use Rattle.nbt_confirm.proofs.deciding.may_join.Goals as goal

pub loop-lease-init : goal.loop-lease-init
loop-lease-init c = rw (c.into_iter-lease-iterator.ensures.into_iter_gives, c.members-lease-items.ensures.members) (tt, tt, (λ all. all, λ all. all))

pub loop-lease-preserved : goal.loop-lease-preserved
loop-lease-preserved c = (tt, tt, join_next c.args.ip (leases_at c.args.now c.args.table.now.rows c.args.name.now) c.loop-lease.lease-iterator c.next.new.self c.in-Some.lease c.in-Some.ensures.steps (c.is_joined_by.ensures.0 c.if-not-is_joined_by.false) c.loop-lease.invariant.2)

pub returns-then-not-is_joined_by : goal.returns-then-not-is_joined_by
returns-then-not-is_joined_by c =
    let not = join_one c.args.ip (leases_at c.args.now c.args.table.now.rows c.args.name.now) c.loop-lease.lease-iterator c.next.new.self c.in-Some.lease c.in-Some.ensures.steps c.loop-lease.invariant.2 in
    (λ never. absurd cc, λ all. let e = c.is_joined_by.ensures.1 (not all) in let f = c.if-not-is_joined_by.true in absurd cc)

pub returns : goal.returns
returns c = (λ all. join_none c.args.ip (leases_at c.args.now c.args.table.now.rows c.args.name.now) c.loop-lease.lease-iterator c.in-None.ensures.steps.0 c.loop-lease.invariant.2, λ all. refl)
