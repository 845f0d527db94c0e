use Rattle.std.proofs.Common.{◌≡◌, true, sym, ap, ◌∙◌}
use Rattle.nbt_lease.proofs.Common.{Entries, members_of, has_over}
use Rattle.nbt_lease.proofs.Living.{ends_over, none_is_over}
use Rattle.nbt_lease.proofs.index.Index.end_over.Goals as goal

pub returns-then-has_over-clause-leases : goal.returns-then-has_over-clause-leases
returns-then-has_over-clause-leases c =
    let over : has_over c.args.addr c.args.now (members_of c.args.self.now c.args.name.now) ≡ true = ap (has_over c.args.addr c.args.now) (sym c.members.ensures) ∙ (sym c.has_over.ensures ∙ c.if-has_over.true) in
    (ends_over c.end.result c.args.addr c.args.now c.args.name.now c.args.self.now c.end.new.self over c.end.ensures.left c.end.ensures.gone c.end.ensures.none).same

pub returns-then-has_over-clause-none : goal.returns-then-has_over-clause-none
returns-then-has_over-clause-none c =
    let over : has_over c.args.addr c.args.now (members_of c.args.self.now c.args.name.now) ≡ true = ap (has_over c.args.addr c.args.now) (sym c.members.ensures) ∙ (sym c.has_over.ensures ∙ c.if-has_over.true) in
    (ends_over c.end.result c.args.addr c.args.now c.args.name.now c.args.self.now c.end.new.self over c.end.ensures.left c.end.ensures.gone c.end.ensures.none).none

pub returns-then-not-any_over-clause-none : goal.returns-then-not-any_over-clause-none
returns-then-not-any_over-clause-none c =
    ap (λ (es : Entries). has_over c.args.addr c.args.now (members_of es c.args.name.now)) (sym c.self.view_is)
    ∙ none_is_over c.args.addr c.args.now c.args.name.now c.self.inside.members.entries c.self.inside.ends c.self.invariant c.if-not-any_over.ensures.live
