use Rattle.std.proofs.Common.{not, refl, sym, ap, ◌∙◌, subst}
use Rattle.nbt_lease.proofs.Common.{NoLease, OfOthers, Leases, no_lease, of_others, living, Ended}
use Rattle.nbt_lease.proofs.Living.{same_living, ended_lives}
use Rattle.nbt_lease.proofs.Placing.{holds_on, takes_back, releases_none, none_so, none_first, some_first, false_is}
use Rattle.nbt_lease.proofs.table.end_lease.Goals as goal

pub returns-then-end-clause-rule : goal.returns-then-end-clause-rule
returns-then-end-clause-rule c table holds =
    let mid = holds_on table c.args.now c.args.index.now c.end_over.new.self holds c.end_over.ensures.leases c.end_over.ensures.fewer in
    let live = ended_lives c.args.addr c.args.now c.args.name.now c.end_over.new.self c.end.new.self c.end_over.ensures.none (c.end.ensures.gone c.if-end.true) in
    takes_back table c.args.now c.args.name.now c.args.addr (living c.args.now c.end.new.self) (subst (λ (f : Leases). Ended f c.args.name.now c.args.addr (living c.args.now c.end.new.self)) mid.leases live)

pub returns-then-is_none-clause-rule : goal.returns-then-is_none-clause-rule
returns-then-is_none-clause-rule c table holds =
    let mid = holds_on table c.args.now c.args.index.now c.end_over.new.self holds c.end_over.ensures.leases c.end_over.ensures.fewer in
    let same = same_living c.args.now c.end_over.new.self c.end.new.self (false_is c.end.result _ c.if-end.false c.end.ensures.unchanged) ∙ mid.leases in
    let none = sym c.live.ensures ∙ none_first c.next.result c.live.result c.next.new.self c.next.ensures.steps (c.is_none.ensures ∙ ap not c.if-is_none.true) in
    releases_none table c.args.now c.args.name.now c.args.addr NoLease (living c.args.now c.end.new.self) same (no_lease (ap (λ (f : Leases). f c.args.name.now) (sym same) ∙ none))

pub returns-clause-rule : goal.returns-clause-rule
returns-clause-rule c table holds =
    let mid = holds_on table c.args.now c.args.index.now c.end_over.new.self holds c.end_over.ensures.leases c.end_over.ensures.fewer in
    let same = same_living c.args.now c.end_over.new.self c.end.new.self (false_is c.end.result _ c.if-end.false c.end.ensures.unchanged) ∙ mid.leases in
    let some = some_first c.next.result c.live.result c.next.new.self c.next.ensures.steps (c.is_none.ensures ∙ ap not c.if-is_none.false) in
    let none = none_so table c.args.now c.args.name.now c.args.addr c.args.addr c.end_over.new.self mid refl (false_is c.end.result _ c.if-end.false c.end.ensures.none) in
    releases_none table c.args.now c.args.name.now c.args.addr OfOthers (living c.args.now c.end.new.self) same
    (of_others (λ empty. some (c.live.ensures ∙ (ap (λ (f : Leases). f c.args.name.now) same ∙ empty))) none)
