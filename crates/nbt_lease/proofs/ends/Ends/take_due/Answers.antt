use Rattle.std.proofs.Common.{◌≡◌, ◌∷◌, ℕ, ◌-◌, ◌==◌, false, cond, List, is_some, sym, ap, ◌∙◌, arith}
use Rattle.nbt_lease.proofs.Common.{false≢true, Due, is_due, in_set}
use Rattle.nbt_lease.proofs.Dues.{some_weaker, set_is, set_changes, set_distinct, none_in, no_earlier}
use Rattle.nbt_lease.proofs.Tallying.{first_is, first_gone}
use Rattle.nbt_lease.proofs.ends.Ends.take_due.Goals as goal
use Rattle.nbt_lease.proofs.ends.Ends.take_due.Goals.{in_default-via-in-Some+else-due-now, in_default-via-in_default}

pub returns-in-Some-clause-found : goal.returns-in-Some-clause-found
returns-in-Some-clause-found g c =
    some_weaker c.pop_first.result _ _
    (λ k h d. set_changes c.self.inside.dues.keys c.pop_first.new.self.keys k false h.0 d ∙ ap (λ (ds : List Due). cond (is_due k d) false (in_set ds d)) c.self.view_is)
    c.pop_first.ensures.updates

pub returns-in-Some-clause-distinct : goal.returns-in-Some-clause-distinct
returns-in-Some-clause-distinct g c = some_weaker c.pop_first.result _ _ (λ k h. set_distinct c.pop_first.new.self.keys c.pop_first.ensures.ordered) c.pop_first.ensures.updates

pub returns-in_default-clause-live : goal.returns-in_default-clause-live
returns-in_default-clause-live g c d there =
    let among = ap (λ (ds : List Due). in_set ds d) c.self.view_is ∙ there in
    elim c.in_default.branch [
      | in_default-via-in-Some+else-due-now w ↦
          omega (arith, w.if-due-now.false, no_earlier w.in-Some.due.now d (w.in-Some.ensures.least d (set_is c.self.inside.dues.keys d ∙ among)))
      | in_default-via-in_default w ↦ absurd (none_in c.self.inside.dues.keys d (λ some. false≢true (sym (ap is_some w.in_default.is) ∙ c.first.ensures.variant.1 some)) among)
    ]

pub invariant_of-self : goal.invariant_of-self
invariant_of-self g c =
    let old = c.self.inside.dues.keys in
    let new = c.pop_first.new.self.keys in
    let d = c.in-Some.due.now in
    let is : old ≡ d ∷ new = first_is c.pop_first.result old new d c.in-Some.ensures.first c.pop_first.ensures.variant c.pop_first.ensures.removal in
    let t = c.self.invariant.1 in (
      λ none. let empty = c.self.invariant.0 none in absurd cc,
      record {
        once = set_distinct new c.pop_first.ensures.ordered;
        each = λ a. c.remove.ensures a ∙ (ap (λ (n : ℕ). cond (d.addr == a) (n - 1) n) (t.each a) ∙ sym (first_gone old new d is a));
      },
    )
