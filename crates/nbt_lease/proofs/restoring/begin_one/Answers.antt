use Rattle.std.proofs.Common.{◌∷◌, ◌++◌, [], List, refl, sym, ap, ◌∙◌, subst, arith}
use Rattle.nbt_lease.proofs.Common.{both_ways, Lease, Leases, leases_at, AreSound, at_name, members_of, StandsIn}
use Rattle.nbt_lease.proofs.Counts.{last_at}
use Rattle.nbt_lease.proofs.Restored.{ok_is, over_more, row_more, stands_last, stands_so, may_stand, timely_last}
use Rattle.nbt_lease.proofs.restoring.begin_one.Goals as goal
use Rattle.nbt_lease.proofs.restoring.begin_one.Goals.{then-latest-lease-via-then-latest-lease, then-latest-lease-via-else-latest-lease+then-not-admits}

pub returns-then-lease-now-clause-leases : goal.returns-then-lease-now-clause-leases
returns-then-lease-now-clause-leases c rows is = is ∙ sym (over_more c.args.now rows c.args.name.now c.args.lease c.if-lease-now.true)

pub returns-then-lease-now-clause-sound : goal.returns-then-lease-now-clause-sound
returns-then-lease-now-clause-sound c rows is =
    subst (λ (f : Leases). AreSound c.args.latest (f c.args.name.now)) (is ∙ sym (over_more c.args.now rows c.args.name.now c.args.lease c.if-lease-now.true)) c.requires.sound

pub returns-then-latest-lease-clause-unsound : goal.returns-then-latest-lease-clause-unsound
returns-then-latest-lease-clause-unsound c e rows is sound =
    let leases : List Lease = leases_at c.args.now rows c.args.name.now in
    let whole : AreSound c.args.latest (leases ++ c.args.lease ∷ []) = subst (AreSound c.args.latest) (row_more c.args.now rows c.args.name.now c.args.lease c.if-lease-now.false) sound in
    let here = stands_so c.args.now c.args.lease.addr c.members.result.now (members_of c.args.index.now c.args.name.now) c.find-standing.result c.members.ensures c.requires.live c.find-standing.ensures in
    let found : StandsIn c.args.lease.addr leases c.find-standing.result = subst (λ (f : Leases). StandsIn c.args.lease.addr (f c.args.name.now) c.find-standing.result) is here in
    elim c.then-latest-lease.branch [
      | then-latest-lease-via-then-latest-lease w ↦ omega (arith, w.if-latest-lease.true, timely_last c.args.latest leases c.args.lease whole)
      | then-latest-lease-via-else-latest-lease+then-not-admits w ↦ both_ways w.admits.result w.if-not-admits.true ((w.admits.ensures leases c.args.lease found refl).1 (may_stand c.args.latest leases c.args.lease whole))
    ]

pub returns-clause-leases : goal.returns-clause-leases
returns-clause-leases c rows is =
    ok_is c.begin.result _ (sym c.is_err.ensures.value ∙ c.if-is_err.false) c.begin.ensures.begun
    ∙ (ap (λ (f : Leases). at_name c.args.name.now (f c.args.name.now ++ c.args.lease ∷ []) f) is ∙ sym (last_at c.args.now c.args.name.now c.args.lease rows c.if-lease-now.false))

pub returns-clause-sound : goal.returns-clause-sound
returns-clause-sound c rows is =
    let leases : List Lease = leases_at c.args.now rows c.args.name.now in
    let here = stands_so c.args.now c.args.lease.addr c.members.result.now (members_of c.args.index.now c.args.name.now) c.find-standing.result c.members.ensures c.requires.live c.find-standing.ensures in
    let found : StandsIn c.args.lease.addr leases c.find-standing.result = subst (λ (f : Leases). StandsIn c.args.lease.addr (f c.args.name.now) c.find-standing.result) is here in
    let before : AreSound c.args.latest leases = subst (λ (f : Leases). AreSound c.args.latest (f c.args.name.now)) is c.requires.sound in
    subst (AreSound c.args.latest) (sym (row_more c.args.now rows c.args.name.now c.args.lease c.if-lease-now.false))
    (stands_last c.args.latest leases c.args.lease before c.if-latest-lease.false ((c.admits.ensures leases c.args.lease found refl).0 c.if-not-admits.false))

pub begin-requires : goal.begin-requires
begin-requires c =
    let here = stands_so c.args.now c.args.lease.addr c.members.result.now (members_of c.args.index.now c.args.name.now) c.find-standing.result c.members.ensures c.requires.live c.find-standing.ensures in
    record { none = ((c.admits.ensures (members_of c.args.index.now c.args.name.now) c.args.lease here refl).0 c.if-not-admits.false).none }
