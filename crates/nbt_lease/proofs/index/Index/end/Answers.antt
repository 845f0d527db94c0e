use Rattle.std.proofs.Common.{◌++◌, ◌∷◌, [], ℕ, List, Option, false, cond, unwrap_or, length, refl, sym, ap, subst, ◌∙◌, arith}
use Rattle.nbt_lease.proofs.Common.{Lease, Leases, at_name, HasNone, AreApart, Entries, members_of, rows_of, due, is_due, in_set, if_any, IsMember}
use Rattle.nbt_lease.proofs.Agreeing.{goes_taken, stays, members_at, if_any_is}
use Rattle.nbt_lease.proofs.Ending.{none_beside}
use Rattle.nbt_lease.proofs.Flat.{counted}
use Rattle.nbt_lease.proofs.Others.{here}
use Rattle.nbt_lease.proofs.index.Index.end.Goals as goal

pub invariant_of-self : goal.invariant_of-self
invariant_of-self c = stays c.self.inside.members.entries c.take_out.new.members.entries c.self.inside.ends c.self.inside.ends c.self.invariant c.take_out.ensures.names c.self.invariant.once c.in_default.ensures.left (λ d. refl)

pub returns-in_default-clause-left : goal.returns-in_default-clause-left
returns-in_default-clause-left c = subst (λ (o : Option (List Lease)). HasNone c.args.addr (unwrap_or o [])) (sym (c.in_default.ensures.left c.args.name.now)) c.in_default.ensures.none

pub returns-in_default-clause-count : goal.returns-in_default-clause-count
returns-in_default-clause-count c =
    omega (arith, counted c.take_out.new.members.entries c.self.inside.ends (invariant_of-self c), counted c.self.inside.members.entries c.self.inside.ends c.self.invariant, ap (λ (es : Entries). length (rows_of es)) c.self.view_is)

pub invariant_of-self-2 : goal.invariant_of-self-2
invariant_of-self-2 c =
    let t = c.in-Some.ensures.taken in
    goes_taken c.self.inside.members.entries c.take_out.new.members.entries c.self.inside.ends c.remove.new.self c.args.name.now c.args.addr c.in-Some.lease c.self.invariant c.take_out.ensures.names c.remove.ensures.distinct t
    (λ d. c.remove.ensures.found d ∙ ap (λ (n : ℕ). cond (is_due (due c.in-Some.lease.end c.args.name.now n) d) false (in_set c.self.inside.ends d)) (sym t.member.owner_is))

pub returns-clause-gone : goal.returns-clause-gone
returns-clause-gone c _ =
    let t = c.in-Some.ensures.taken in
    record {
      before = t.before;
      lease = c.in-Some.lease;
      behind = t.behind;
      member = subst (λ (es : Entries). IsMember c.args.addr (members_of es c.args.name.now) t.before c.in-Some.lease t.behind) c.self.view_is t.member;
      after_is =
          members_at c.self.inside.members.entries c.take_out.new.members.entries c.args.name.now (if_any (t.before ++ t.behind)) t.left
          ∙ (λ i. at_name c.args.name.now (if_any_is (t.before ++ t.behind) i) (members_of (c.self.view_is i)));
    }

pub returns-clause-left : goal.returns-clause-left
unfolding returns-clause-gone
returns-clause-left c =
    let e = returns-clause-gone c refl in
    let apart : AreApart (e.before ++ e.lease ∷ e.behind) = subst AreApart c.in-Some.ensures.taken.member.is (c.self.invariant.apart c.args.name.now) in
    subst (HasNone c.args.addr) (sym (ap (λ (f : Leases). f c.args.name.now) e.after_is ∙ here c.args.name.now (e.before ++ e.behind) (members_of c.args.self.now)))
    (subst (λ (n : ℕ). HasNone n (e.before ++ e.behind)) e.member.owner_is (none_beside e.before e.behind e.lease apart))

pub returns-clause-count : goal.returns-clause-count
returns-clause-count c =
    omega (arith, c.remove.ensures.count, counted c.take_out.new.members.entries c.remove.new.self (invariant_of-self-2 c), counted c.self.inside.members.entries c.self.inside.ends c.self.invariant, ap (λ (es : Entries). length (rows_of es)) c.self.view_is)
