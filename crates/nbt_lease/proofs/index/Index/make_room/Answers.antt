use Rattle.std.proofs.Common.{sym, ap, subst, ◌∙◌}
use Rattle.indexmap.specs.IndexMap.{insert_all}
use Rattle.nbt_lease.proofs.Common.{Entries, Agrees, same_name}
use Rattle.nbt_lease.proofs.Roomy.{as_they_were}
use Rattle.nbt_lease.proofs.index.Index.make_room.Goals as goal

pub invariant_of-self-2 : goal.invariant_of-self-2
invariant_of-self-2 c = subst (λ (es : Entries). Agrees es c.self.inside.ends)
    (sym (ap (λ m. m.entries) c.swap.ensures.x_after
    ∙ (c.in_ok-append.ensures.entries ∙ (ap (λ (es : Entries). insert_all same_name es c.self.inside.members.entries) c.in_ok-roomy.ensures.empty ∙ as_they_were c.self.inside.members.entries c.self.invariant.names))))
    c.self.invariant

pub returns : goal.returns
returns c = ap (λ m. m.entries) c.swap.ensures.x_after
    ∙ (c.in_ok-append.ensures.entries ∙ (ap (λ (es : Entries). insert_all same_name es c.self.inside.members.entries) c.in_ok-roomy.ensures.empty ∙ (as_they_were c.self.inside.members.entries c.self.invariant.names ∙ c.self.view_is)))
