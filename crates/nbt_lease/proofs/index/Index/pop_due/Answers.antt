use Rattle.std.proofs.Common.{List, length, sym, ap, subst, ◌∙◌, arith}
use Rattle.nbt_lease.proofs.Common.{filter, Due, is_live, Entries, members_of, rows_of, due, Agrees}
use Rattle.nbt_lease.proofs.Agreeing.{pops, pops_live}
use Rattle.nbt_lease.proofs.Ending.{live_from}
use Rattle.nbt_lease.proofs.Flat.{counted}
use Rattle.nbt_lease.proofs.index.Index.pop_due.Goals as goal

pub invariant_of-self : goal.invariant_of-self
invariant_of-self g c = subst (λ (ds : List Due). Agrees c.self.inside.members.entries ds) (sym c.in_default.ensures.unchanged) c.self.invariant

pub returns-in_default-clause-live : goal.returns-in_default-clause-live
returns-in_default-clause-live g c q = live_from c.args.now (members_of c.self.inside.members.entries q) (λ e a h. c.in_default.ensures.live (due e q a) (c.self.invariant.agree (due e q a) ∙ h))

pub invariant_of-self-2 : goal.invariant_of-self-2
invariant_of-self-2 g c =
    pops c.self.inside.members.entries c.take_out.new.members.entries c.self.inside.ends c.take_due.new.self c.in-Some.due c.take_out.result c.self.invariant c.take_out.ensures.names c.in-Some.ensures.distinct c.in-Some.ensures.there (rw c.as_name.ensures at c.take_out.ensures.taken) (rw c.as_name.ensures at c.take_out.ensures.none) c.in-Some.ensures.found

pub returns-clause-leases : goal.returns-clause-leases
returns-clause-leases g c q =
    pops_live c.args.now c.self.inside.members.entries c.take_out.new.members.entries c.self.inside.ends c.in-Some.due c.take_out.result c.self.invariant c.in-Some.ensures.there c.in-Some.ensures.over (rw c.as_name.ensures at c.take_out.ensures.taken) (rw c.as_name.ensures at c.take_out.ensures.none) q
    ∙ ap (λ (es : Entries). filter (is_live c.args.now) (members_of es q)) c.self.view_is

pub returns-clause-count : goal.returns-clause-count
returns-clause-count g c =
    omega (arith, c.in-Some.ensures.count, counted c.take_out.new.members.entries c.take_due.new.self (invariant_of-self-2 g c), counted c.self.inside.members.entries c.self.inside.ends c.self.invariant, ap (λ (es : Entries). length (rows_of es)) c.self.view_is)
