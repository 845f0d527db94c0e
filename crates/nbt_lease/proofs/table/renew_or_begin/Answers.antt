use Rattle.std.proofs.Common.{ℕ, length, true, Option, Ok, sym, ap, subst, ◌∙◌, arith}
use Rattle.nbt_lease.proofs.Common.{IfSome, both_ways, IfOk-at_ok, Lease, Active, GroupFull, Leases, leases_at, HasNone, active, group_full, members_of, living, Renewed, Moves, Places}
use Rattle.nbt_lease.proofs.Living.{same_living, renewed_lives, moves_live}
use Rattle.nbt_lease.proofs.Placing.{err_is, none_is, room_left, holds_on, stands_so, none_so, refuses, renews_lease, runs_out_moving}
use Rattle.nbt_lease.proofs.table.renew_or_begin.Goals as goal

pub returns-then-not-allows-clause-rule : goal.returns-then-not-allows-clause-rule
returns-then-not-allows-clause-rule c table a holds most_is lease_is seconds_is =
    let mid = holds_on table c.args.now c.args.index.now c.end_over.new.self holds c.end_over.ensures.leases c.end_over.ensures.fewer in
    let found = stands_so table c.args.now c.args.name.now c.args.lease.addr a.addr c.end_over.new.self c.members.result.now c.find-standing.result mid (ap (λ (l : Lease). l.addr) lease_is) c.members.ensures c.find-standing.ensures in
    let allows = c.allows.ensures (leases_at c.args.now table.rows c.args.name.now) a found (sym (ap (λ (l : Lease). l.kind) lease_is)) in
    refuses table c.args.now c.args.name.now a Active (living c.args.now c.end_over.new.self) (λ e. cc) mid.leases (active (λ allowed. both_ways c.allows.result c.if-not-allows.true (allows.1 allowed)))

pub returns-in_default-clause-rule : goal.returns-in_default-clause-rule
returns-in_default-clause-rule c table a holds most_is lease_is seconds_is =
    let mid = holds_on table c.args.now c.args.index.now c.end_over.new.self holds c.end_over.ensures.leases c.end_over.ensures.fewer in
    let found = stands_so table c.args.now c.args.name.now c.args.lease.addr a.addr c.end_over.new.self c.members.result.now c.find-standing.result mid (ap (λ (l : Lease). l.addr) lease_is) c.members.ensures c.find-standing.ensures in
    let allows = c.allows.ensures (leases_at c.args.now table.rows c.args.name.now) a found (sym (ap (λ (l : Lease). l.kind) lease_is)) in
    let moves = err_is c.renew.result _ c.in_default.not-Ok c.renew.ensures.moves in
    let same = err_is c.renew.result _ c.in_default.not-Ok c.renew.ensures.unchanged in
    let live = moves_live c.args.lease.addr c.args.now c.args.name.now c.end_over.new.self c.renew.new.self c.end_over.ensures.none c.args.lease.end moves in
    runs_out_moving table c.args.now c.args.name.now a (living c.args.now c.renew.new.self) (allows.0 c.if-not-allows.false)
    (subst (λ (l : Lease). Moves (leases_at c.args.now table.rows) c.args.name.now l.addr l.end) lease_is (subst (λ (f : Leases). Moves f c.args.name.now c.args.lease.addr c.args.lease.end) mid.leases live))
    (same_living c.args.now c.end_over.new.self c.renew.new.self same ∙ mid.leases)

pub returns-in-Some-clause-rule : goal.returns-in-Some-clause-rule
returns-in-Some-clause-rule c table a holds most_is lease_is seconds_is =
    let mid = holds_on table c.args.now c.args.index.now c.end_over.new.self holds c.end_over.ensures.leases c.end_over.ensures.fewer in
    let found = stands_so table c.args.now c.args.name.now c.args.lease.addr a.addr c.end_over.new.self c.members.result.now c.find-standing.result mid (ap (λ (l : Lease). l.addr) lease_is) c.members.ensures c.find-standing.ensures in
    let allows = c.allows.ensures (leases_at c.args.now table.rows c.args.name.now) a found (sym (ap (λ (l : Lease). l.kind) lease_is)) in
    let renewed = IfOk-at_ok _ c.in-Ok.is c.renew.ensures.renewed in
    let here = subst (λ (o : Option ℕ). IfSome o (λ until. Renewed (members_of c.end_over.new.self) c.args.name.now c.args.lease.addr c.args.lease.end until (members_of c.renew.new.self))) c.in-Some.is renewed in
    let live = renewed_lives c.args.lease.addr c.args.now c.args.name.now c.end_over.new.self c.renew.new.self c.end_over.ensures.none c.args.lease.end c.in-Some.end here in
    let after : Leases = living c.args.now c.renew.new.self in
    subst (λ (s : ℕ). Places table c.args.now c.args.name.now a (Ok (record { seconds = s; end = c.in-Some.end; renewed = true })) after) (sym seconds_is)
    (renews_lease table c.args.now c.args.name.now a c.in-Some.end after (allows.0 c.if-not-allows.false)
    (subst (λ (l : Lease). Renewed (leases_at c.args.now table.rows) c.args.name.now l.addr l.end c.in-Some.end after) lease_is
    (subst (λ (f : Leases). Renewed f c.args.name.now c.args.lease.addr c.args.lease.end c.in-Some.end after) mid.leases live)))

pub returns-then-is_full-clause-rule : goal.returns-then-is_full-clause-rule
returns-then-is_full-clause-rule c table a holds most_is lease_is seconds_is =
    let mid = holds_on table c.args.now c.args.index.now c.end_over.new.self holds c.end_over.ensures.leases c.end_over.ensures.fewer in
    let found = stands_so table c.args.now c.args.name.now c.args.lease.addr a.addr c.end_over.new.self c.members.result.now c.find-standing.result mid (ap (λ (l : Lease). l.addr) lease_is) c.members.ensures c.find-standing.ensures in
    let allows = c.allows.ensures (leases_at c.args.now table.rows c.args.name.now) a found (sym (ap (λ (l : Lease). l.kind) lease_is)) in
    let none = none_is c.in-Ok.renewed _ c.in_default-renewed.not-Some (IfOk-at_ok _ c.in-Ok.is c.renew.ensures.none) in
    let same = none_is c.in-Ok.renewed _ c.in_default-renewed.not-Some (IfOk-at_ok _ c.in-Ok.is c.renew.ensures.none_left) in
    refuses table c.args.now c.args.name.now a GroupFull (living c.args.now c.renew.new.self) (λ e. cc) (same_living c.args.now c.end_over.new.self c.renew.new.self same ∙ mid.leases)
    (group_full (allows.0 c.if-not-allows.false) (none_so table c.args.now c.args.name.now c.args.lease.addr a.addr c.end_over.new.self mid (ap (λ (l : Lease). l.addr) lease_is) none) (omega (arith, found.members, c.is_full.ensures.0 c.if-is_full.true)))

pub begin-requires-clause-none : goal.begin-requires-clause-none
begin-requires-clause-none c =
    let none = none_is c.in-Ok.renewed _ c.in_default-renewed.not-Some (IfOk-at_ok _ c.in-Ok.is c.renew.ensures.none) in
    let same = none_is c.in-Ok.renewed _ c.in_default-renewed.not-Some (IfOk-at_ok _ c.in-Ok.is c.renew.ensures.none_left) in
    subst (λ (f : Leases). HasNone c.args.lease.addr (f c.args.name.now)) (sym same) none

pub returns-clause-rule : goal.returns-clause-rule
returns-clause-rule c table a holds most_is lease_is seconds_is =
    let mid = holds_on table c.args.now c.args.index.now c.end_over.new.self holds c.end_over.ensures.leases c.end_over.ensures.fewer in
    let found = stands_so table c.args.now c.args.name.now c.args.lease.addr a.addr c.end_over.new.self c.members.result.now c.find-standing.result mid (ap (λ (l : Lease). l.addr) lease_is) c.members.ensures c.find-standing.ensures in
    let allows = c.allows.ensures (leases_at c.args.now table.rows c.args.name.now) a found (sym (ap (λ (l : Lease). l.kind) lease_is)) in
    let none = none_is c.in-Ok.renewed _ c.in_default-renewed.not-Some (IfOk-at_ok _ c.in-Ok.is c.renew.ensures.none) in
    let same = none_is c.in-Ok.renewed _ c.in_default-renewed.not-Some (IfOk-at_ok _ c.in-Ok.is c.renew.ensures.none_left) in
    c.begin.ensures.rule table a (holds_on table c.args.now c.end_over.new.self c.renew.new.self mid (same_living c.args.now c.end_over.new.self c.renew.new.self same) (omega (arith, c.renew.ensures.count))) most_is lease_is seconds_is
    (record {
      allowed = allows.0 c.if-not-allows.false;
      none = none_so table c.args.now c.args.name.now c.args.lease.addr a.addr c.end_over.new.self mid (ap (λ (l : Lease). l.addr) lease_is) none;
      room = room_left c.find-standing.result.members (length (leases_at c.args.now table.rows c.args.name.now)) c.is_full.result found.members c.if-is_full.false c.is_full.ensures.1;
    })
