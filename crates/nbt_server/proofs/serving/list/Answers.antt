use Rattle.std.proofs.Common.{◌≡◌, ◌++◌, ◌+◌, ◌∷◌, List, ℕ, length, length-append, take, ap, refl, sym, ◌∙◌, subst, arith}
use Rattle.nbt_server.proofs.Common.{Lease, leases_at, IsLeastEnd, entry, entries_most, entries, listed}
use Rattle.nbt_server.proofs.Rules.{lists_next, lists_no_more, lists_all, is_longer, is_no_longer}
use Rattle.nbt_server.proofs.serving.list.Goals as goal

pub loop-lease-init : goal.loop-lease-init
loop-lease-init c =
    rw (c.requires.empty, c.entries_most-room.ensures.value, c.into_iter-lease-iterator.ensures.into_iter_gives, c.members-leases.ensures.members) (tt, tt, refl, omega arith, omega arith)

pub loop-lease-preserved : goal.loop-lease-preserved
loop-lease-preserved c =
    let all = leases_at c.args.now c.args.table.now.rows c.args.name.now in
    let rest : List Lease = c.next.new.self in
    let left : c.loop-lease.put.items ++ entries (take c.loop-lease.room (c.in-Some.lease ∷ rest)) ≡ entries (listed c.args.name.now all) =
    subst (λ (ls : List Lease). c.loop-lease.put.items ++ entries (take c.loop-lease.room ls) ≡ entries (listed c.args.name.now all)) c.in-Some.ensures.steps c.loop-lease.invariant.2 in
    let counts : entries_most c.args.name.now + length (c.in-Some.lease ∷ rest) ≡ length all + c.loop-lease.room =
    subst (λ (ls : List Lease). entries_most c.args.name.now + length ls ≡ length all + c.loop-lease.room) c.in-Some.ensures.steps c.loop-lease.invariant.4 in
    let named : c.try_extend_from_slice.new.self.items ≡ c.loop-lease.put.items ++ c.entry_octets-entry.result = rw c.unwrap.ensures at c.try_extend_from_slice.ensures.ok in
    let written : c.try_extend_from_slice.new.self.items ≡ c.loop-lease.put.items ++ entry c.in-Some.lease.kind c.in-Some.lease.addr = named ∙ ap (λ (xs : List ℕ). c.loop-lease.put.items ++ xs) c.entry_octets-entry.ensures.entry in (
      tt,
      tt,
      rw written (lists_next c.loop-lease.room c.loop-lease.put.items c.in-Some.lease rest (entries (listed c.args.name.now all)) (omega arith) left),
      omega (arith, ap length named, length-append c.loop-lease.put.items c.entry_octets-entry.result, c.entry_octets-entry.ensures.six, c.loop-lease.invariant.3),
      omega (arith, counts),
    )

pub returns-then-room-eq0-clause-entries : goal.returns-then-room-eq0-clause-entries
returns-then-room-eq0-clause-entries c = lists_no_more c.loop-lease.put.items c.loop-lease.room _ _ c.if-room-eq0.true c.loop-lease.invariant.2

pub returns-then-room-eq0-clause-cut : goal.returns-then-room-eq0-clause-cut
returns-then-room-eq0-clause-cut c =
    sym (is_longer (entries_most c.args.name.now) (leases_at c.args.now c.args.table.now.rows c.args.name.now) (omega (arith, c.loop-lease.invariant.4, c.if-room-eq0.true, ap length c.in-Some.ensures.steps)))

pub returns-then-room-eq0-clause-end : goal.returns-then-room-eq0-clause-end
returns-then-room-eq0-clause-end c = subst (λ (ls : List Lease). IsLeastEnd ls c.least_end-end.result) c.members-leases.ensures.members c.least_end-end.ensures

pub returns-then-room-eq0-clause-sound : goal.returns-then-room-eq0-clause-sound
returns-then-room-eq0-clause-sound c = c.members-leases.ensures.sound c.args.name.now

pub returns-clause-entries : goal.returns-clause-entries
returns-clause-entries c = lists_all c.loop-lease.put.items c.loop-lease.room _ _ c.in-None.ensures.steps.0 c.loop-lease.invariant.2

pub returns-clause-cut : goal.returns-clause-cut
returns-clause-cut c =
    sym (is_no_longer (entries_most c.args.name.now) (leases_at c.args.now c.args.table.now.rows c.args.name.now) (omega (arith, c.loop-lease.invariant.4, ap length c.in-None.ensures.steps.0)))

pub returns-clause-end : goal.returns-clause-end
returns-clause-end c = subst (λ (ls : List Lease). IsLeastEnd ls c.least_end-end.result) c.members-leases.ensures.members c.least_end-end.ensures

pub returns-clause-sound : goal.returns-clause-sound
returns-clause-sound c = c.members-leases.ensures.sound c.args.name.now
