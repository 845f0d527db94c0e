use Rattle.std.proofs.Common.{◌≡◌, Some, refl, sym, ◌∙◌}
use Rattle.std.proofs.lemmas.Bool.{false≢true}
use Rattle.std.proofs.lemmas.Option.{none-some, same_Some}
use Rattle.nbt_name.specs.declared.addr.Kind.TheVariants.{Unique, Group}
use Rattle.nbt_world.proofs.world.World.no_two_holders.Goals as goal

other_kinds : Unique ≡ Group → ⊥
other_kinds e = cc

-- what the two patterns read
both_group : (c : goal.In-Some-Group-Some-Group) → (c.holding.result ≡ Some Group) × (c.holding-2.result ≡ Some Group)
both_group c = (cc, cc)

second_unique : (c : goal.In-Some-Some) → c.in-Some-Some.field-0-1 ≡ Unique
second_unique c = cc

first_unique : (c : goal.In-Some-Some-2) → c.in-Some-Some.field-0-0 ≡ Unique
first_unique c = cc

pub returns-then-i-j-clause-exactly : goal.returns-then-i-j-clause-exactly
returns-then-i-j-clause-exactly c = (λ t k l ne p q. absurd (ne c.if-i-j.true), λ may. refl)

pub returns-in-Some-Group-Some-Group-clause-exactly : goal.returns-in-Some-Group-Some-Group-clause-exactly
returns-in-Some-Group-Some-Group-clause-exactly c =
    let groups = both_group c in (
      λ t k l ne p q. (sym (same_Some Group k (sym groups.0 ∙ c.holding.ensures ∙ p)), sym (same_Some Group l (sym groups.1 ∙ c.holding-2.ensures ∙ q))),
      λ may. refl,
    )

pub returns-in-Some-Some-clause-exactly : goal.returns-in-Some-Some-clause-exactly
returns-in-Some-Some-clause-exactly c = (
  λ t. absurd (false≢true t),
  λ may. absurd (other_kinds (sym (second_unique c) ∙ (may c.in-Some-Some.field-0-0 c.in-Some-Some.field-0-1 c.if-i-j.false (sym c.in-Some-Some.ensures) (sym c.in-Some-Some.ensures')).1)),
)

pub returns-in-Some-Some-clause-always : goal.returns-in-Some-Some-clause-always
returns-in-Some-Some-clause-always c = λ on. absurd
    (other_kinds (sym (second_unique c)
    ∙ (c.is_safe.ensures.safe_timely on c.args.name.now c.args.i c.args.j c.in-Some-Some.field-0-0 c.in-Some-Some.field-0-1 c.if-i-j.false (sym c.in-Some-Some.ensures) (sym c.in-Some-Some.ensures')).1))

pub returns-in-Some-Some-2-clause-exactly : goal.returns-in-Some-Some-2-clause-exactly
returns-in-Some-Some-2-clause-exactly c = (
  λ t. absurd (false≢true t),
  λ may. absurd (other_kinds (sym (first_unique c) ∙ (may c.in-Some-Some.field-0-0 c.in-Some-Some.field-0-1 c.if-i-j.false (sym c.in-Some-Some.ensures) (sym c.in-Some-Some.ensures')).0)),
)

pub returns-in-Some-Some-2-clause-always : goal.returns-in-Some-Some-2-clause-always
returns-in-Some-Some-2-clause-always c = λ on. absurd
    (other_kinds (sym (first_unique c)
    ∙ (c.is_safe.ensures.safe_timely on c.args.name.now c.args.i c.args.j c.in-Some-Some.field-0-0 c.in-Some-Some.field-0-1 c.if-i-j.false (sym c.in-Some-Some.ensures) (sym c.in-Some-Some.ensures')).0))

pub returns-in_default-clause-exactly : goal.returns-in_default-clause-exactly
returns-in_default-clause-exactly c = (λ t k l ne p q. absurd (none-some l (sym c.in_default.is-1 ∙ c.holding-2.ensures ∙ q)), λ may. refl)

pub returns-in_default-2-clause-exactly : goal.returns-in_default-2-clause-exactly
returns-in_default-2-clause-exactly c = (λ t k l ne p q. absurd (none-some l (sym c.in_default.is-1 ∙ c.holding-2.ensures ∙ q)), λ may. refl)

pub returns-in_default-3-clause-exactly : goal.returns-in_default-3-clause-exactly
returns-in_default-3-clause-exactly c = (λ t k l ne p q. absurd (none-some k (sym c.in_default.is-0 ∙ c.holding.ensures ∙ p)), λ may. refl)
