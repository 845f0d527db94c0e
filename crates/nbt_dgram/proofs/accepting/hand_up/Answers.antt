use Rattle.std.proofs.Common.{◌≡◌, Option, Some, None, true, false, sym, ◌∙◌, refl}
use Rattle.std.specs.Prelude.{is_some}
use Rattle.nbt_dgram.specs.Accepting.{handed_up, refused, silent}
use Rattle.nbt_dgram.proofs.accepting.hand_up.Goals as goal

some_of : {X : Type 0} (o : Option X) → is_some o ≡ true → (x : X) × (o ≡ Some x)
some_of None e = absurd cc
some_of (Some x) e = (x, refl)

none_of : {X : Type 0} (o : Option X) → is_some o ≡ false → o ≡ None
none_of None e = refl
none_of (Some x) e = absurd cc

pub returns-then-is_some : goal.returns-then-is_some
returns-then-is_some g c =
    let held = some_of c.holds.result (sym c.is_some.ensures ∙ c.if-is_some.true) in
    rw c.requires (handed_up c.args.names _ held.0 (sym c.holds.ensures ∙ held.1))

pub returns-then-not-is : goal.returns-then-not-is
returns-then-not-is g c =
    rw c.requires (silent c.args.names _ (sym c.holds.ensures ∙ none_of c.holds.result (sym c.is_some.ensures ∙ c.if-is_some.false)) (λ same. let other = c.is.ensures.1 same in let not = c.if-not-is.true in cc))

pub returns : goal.returns
returns g c =
    rw c.refuse.ensures (refused c.args.names _ (sym c.holds.ensures ∙ none_of c.holds.result (sym c.is_some.ensures ∙ c.if-is_some.false)) (c.is.ensures.0 c.if-not-is.false))
