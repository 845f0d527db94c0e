use Rattle.std.proofs.Common.{◌≡◌, ◌+◌, ◌<◌, List, length, take, sym, ap, subst, arith}
use Rattle.nbt_lease.proofs.Common.{filter, take_all, Lease, is_live, Standing, StandsIn}
use Rattle.nbt_lease.proofs.Finding.{none_found, added, passed_by}
use Rattle.nbt_lease.proofs.standing.Standing.find.Goals as goal
use Rattle.nbt_lease.proofs.standing.Standing.find.Goals.{then-now-lease, else-now-lease}

pub loop-index-init : goal.loop-index-init
loop-index-init c = (omega arith, none_found c.args.addr)

pub loop-index-preserved : goal.loop-index-preserved
loop-index-preserved c =
    let within : c.loop-index.index < length c.args.leases.now = omega arith in
    let next : Standing → Type 0 = λ s. StandsIn c.args.addr (filter (is_live c.args.now) (take (c.loop-index.index + 1) c.args.leases.now)) s in
    elim c.if-now-lease.branch [
      | then-now-lease w ↦ (
        omega (arith, ap (λ (s : Standing). s.members) w.standing-is, w.add.ensures.members, c.loop-index.invariant.0),
        subst next (sym w.standing-is)
            (added c.args.addr c.args.now c.loop-index.index c.args.leases.now _ c.loop-index.standing w.add.new.self within w.if-now-lease.true
            (record { members = w.add.ensures.members; group = w.add.ensures.group; own = w.add.ensures.own; other = w.add.ensures.other }) c.loop-index.invariant.1),
      )
      | else-now-lease w ↦ (
        omega (arith, ap (λ (s : Standing). s.members) w.standing-is, c.loop-index.invariant.0),
        subst next (sym w.standing-is) (passed_by c.args.addr c.args.now c.loop-index.index c.args.leases.now _ c.loop-index.standing within w.if-now-lease.false c.loop-index.invariant.1),
      )
    ]

pub returns : goal.returns
returns c =
    let whole : take c.loop-index.index c.args.leases.now ≡ c.args.leases.now = take_all c.loop-index.index c.args.leases.now (omega arith) in
    subst (λ (ls : List Lease). StandsIn c.args.addr (filter (is_live c.args.now) ls) c.loop-index.standing) whole c.loop-index.invariant.1
