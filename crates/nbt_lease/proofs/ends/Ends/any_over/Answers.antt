use Rattle.std.proofs.Common.{◌≡◌, ℕ, ◌<◌, ◌≤◌, true, List, sym, ap, ◌∙◌, ⊎_elim, leb, arith}
use Rattle.nbt_lease.proofs.Common.{OnFalse, cases_Bool, Due, in_set, leb-true, leb-false}
use Rattle.nbt_lease.proofs.Dues.{set_is, no_earlier}
use Rattle.nbt_lease.proofs.ends.Ends.any_over.Goals as goal

-- where the first isn't over, none is
none_over : (first : Due) (now : ℕ) (ds : List Due) → ((d : Due) → in_set ds d ≡ true → first.end ≤ d.end) → OnFalse (leb first.end now) ((d : Due) → in_set ds d ≡ true → now < d.end)
none_over first now ds least =
    ⊎_elim
    (λ over. rw over tt)
    (λ live. rw live (λ d there. omega (arith, least d there, leb-false first.end now live)))
    (cases_Bool (leb first.end now))

pub returns-in-Some-clause-over : goal.returns-in-Some-clause-over
returns-in-Some-clause-over g c over =
    let d = c.in-Some.due.now in
    let there : in_set c.args.self.now d ≡ true = ap (λ (ds : List Due). in_set ds d) (sym c.self.view_is) ∙ (sym (set_is c.self.inside.dues.keys d) ∙ c.in-Some.ensures.member) in
    (d, there, leb-true d.end c.args.now over)

pub returns-in-Some-clause-live : goal.returns-in-Some-clause-live
returns-in-Some-clause-live g c = none_over c.in-Some.due.now c.args.now c.args.self.now
    (λ d there. no_earlier c.in-Some.due.now d (c.in-Some.ensures.least d (set_is c.self.inside.dues.keys d ∙ (ap (λ (ds : List Due). in_set ds d) c.self.view_is ∙ there))))
