use Rattle.std.proofs.Common.{◌≡◌, Option, Some, sym, ◌∙◌, Bool, IsTrue, ◌↔◌}
use Rattle.nbt_dgram.specs.declared.dgram.Names.{Names}
use Rattle.nbt_dgram.specs.declared.dgram.Part.{Part}
use Rattle.nbt_dgram.specs.declared.dgram.Part.TheVariants.{First}
use Rattle.nbt_dgram.proofs.slot.are_same_names.Goals as goal

-- where both are known, they are the two that are compared
of_both : (known : Option Names) (part : Part) (x y : Names) (r : Bool) → known ≡ Some x → part ≡ First y → (IsTrue r ↔ (x ≡ y)) → IsTrue r ↔ ((a b : Names) → known ≡ Some a → part ≡ First b → a ≡ b)
of_both known part x y r e f same = (
  λ is a b g h. let h0 : x ≡ y = same.0 is in let one : ◌≡◌ {A = Option Names} (Some x) (Some a) = sym e ∙ g in let two : First y ≡ First b = sym f ∙ h in cc,
  λ all. same.1 (all x y e f),
)

pub returns-in-Some-First : goal.returns-in-Some-First
returns-in-Some-First c = of_both c.args.known.now c.args.part.now c.in-Some-First.known c.in-Some-First.names c.are.result c.in-Some-First.is-0 c.in-Some-First.is-1 c.are.ensures
