use Rattle.std.proofs.Common.{◌++◌, ◌∷◌, [], Some, length, sym, ap, subst, ◌∙◌, arith}
use Rattle.nbt_lease.proofs.Common.{on_ok_weaker, on_err_weaker, HasNone, at_name, Entries, members_of, rows_of, Agrees}
use Rattle.nbt_lease.proofs.Agreeing.{absent, begins, stays, members_at, members_stay, either_way}
use Rattle.nbt_lease.proofs.Flat.{counted}
use Rattle.nbt_lease.proofs.index.Index.begin.Goals as goal

pub begin_in-requires-clause-absent : goal.begin_in-requires-clause-absent
begin_in-requires-clause-absent c =
    absent c.self.inside.members.entries c.self.inside.ends c.args.name.now c.args.lease.end c.args.lease.addr c.self.invariant
    (subst (λ (es : Entries). HasNone c.args.lease.addr (members_of es c.args.name.now)) (sym c.self.view_is) c.requires.none)

pub invariant_of-self : goal.invariant_of-self
invariant_of-self c =
    let es = c.self.inside.members.entries in
    let ds = c.self.inside.ends in
    let fs = c.begin_in.new.members.entries in
    let gs = c.begin_in.new.ends in
    let none = subst (λ (es : Entries). HasNone c.args.lease.addr (members_of es c.args.name.now)) (sym c.self.view_is) c.requires.none in
    either_way c.begin_in.result _ _ _ _ (Agrees fs gs) c.begin_in.ensures.members c.begin_in.ensures.ends c.begin_in.ensures.members_left c.begin_in.ensures.ends_left
    (begins es fs ds gs c.args.name.now c.args.lease c.self.invariant c.begin_in.ensures.names c.begin_in.ensures.distinct none)
    (stays es fs ds gs c.self.invariant c.begin_in.ensures.names c.begin_in.ensures.distinct)

pub returns-clause-begun : goal.returns-clause-begun
returns-clause-begun c =
    on_ok_weaker c.begin_in.result
    (λ h. members_at c.self.inside.members.entries c.begin_in.new.members.entries c.args.name.now (Some (members_of c.self.inside.members.entries c.args.name.now ++ c.args.lease ∷ [])) h
    ∙ ap (λ (es : Entries). at_name c.args.name.now (members_of es c.args.name.now ++ c.args.lease ∷ []) (members_of es)) c.self.view_is)
    c.begin_in.ensures.members

pub returns-clause-unchanged : goal.returns-clause-unchanged
returns-clause-unchanged c =
    on_err_weaker c.begin_in.result (λ h. members_stay c.self.inside.members.entries c.begin_in.new.members.entries h ∙ ap members_of c.self.view_is) c.begin_in.ensures.members_left

pub returns-clause-count : goal.returns-clause-count
returns-clause-count c =
    on_ok_weaker c.begin_in.result
    (λ n. omega (arith, n, counted c.begin_in.new.members.entries c.begin_in.new.ends (invariant_of-self c), counted c.self.inside.members.entries c.self.inside.ends c.self.invariant, ap (λ (es : Entries). length (rows_of es)) c.self.view_is))
    c.begin_in.ensures.count

pub returns-clause-count_left : goal.returns-clause-count_left
returns-clause-count_left c =
    on_err_weaker c.begin_in.result
    (λ n. omega (arith, n, counted c.begin_in.new.members.entries c.begin_in.new.ends (invariant_of-self c), counted c.self.inside.members.entries c.self.inside.ends c.self.invariant, ap (λ (es : Entries). length (rows_of es)) c.self.view_is))
    c.begin_in.ensures.count_left
