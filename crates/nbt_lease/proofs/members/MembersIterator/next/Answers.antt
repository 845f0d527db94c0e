use Rattle.std.proofs.Common.{List, sym, ap, ◌∙◌, length, arith, rules}
use Rattle.nbt_lease.proofs.Common.{filter, nil_from_length, Lease, is_live}
use Rattle.nbt_lease.proofs.Flat.{live_first, over_first}
use Rattle.nbt_lease.proofs.members.MembersIterator.next.Goals as goal

pub returns-then-self-lease-clause-steps : goal.returns-then-self-lease-clause-steps
returns-then-self-lease-clause-steps c =
    let s = c.loop-lease.self-inside in
    sym c.self.view_is ∙ (sym c.loop-lease.invariant.0 ∙ live_first s.moment c.in-Some.lease.now s.leases.now c.in-Some.others.now c.in-Some.ensures.cases.0 c.if-self-lease.true)

pub loop-lease-preserved : goal.loop-lease-preserved
loop-lease-preserved c =
    let s = c.loop-lease.self-inside in
    (sym (over_first s.moment c.in-Some.lease.now s.leases.now c.in-Some.others.now c.in-Some.ensures.cases.0 c.if-self-lease.false) ∙ c.loop-lease.invariant.0, c.loop-lease.invariant.1)

pub returns-then-self-lease-clause-goes : goal.returns-then-self-lease-clause-goes
returns-then-self-lease-clause-goes c = record {
  on = λ _. (search rules, search rules, omega (arith, ap length (returns-then-self-lease-clause-steps c)));
  keeps = search rules;
  rests = λ _. search rules;
}

pub returns-clause-steps : goal.returns-clause-steps
returns-clause-steps c =
    let s = c.loop-lease.self-inside in
    let empty = ap (λ (ls : List Lease). filter (is_live s.moment) ls) (nil_from_length s.leases.now c.in_default.ensures.cases) in
    (sym c.self.view_is ∙ (sym c.loop-lease.invariant.0 ∙ empty), empty)

pub invariant_of-self : goal.invariant_of-self
invariant_of-self c = rw c.loop-lease.invariant.1 tt

pub invariant_of-self-in_default : goal.invariant_of-self-in_default
invariant_of-self-in_default c = rw c.loop-lease.invariant.1 tt
