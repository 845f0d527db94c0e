use Rattle.nbt_c.proofs.Common.{◌<◌, ℕ, List, [], ◌∷◌, None, refl, subst, Hears, PutsMost, above, given}
use Rattle.nbt_node.specs.Moves.{nothing}
use Rattle.nbt_c.specs.Nodes as is
use Rattle.nbt_c.proofs.hearing.hear_message.Goals as goal

no_octets : (room : List ℕ) → PutsMost [] room room
no_octets [] = refl
no_octets (x ∷ xs) = refl

pub returns-in_default : goal.returns-in_default
returns-in_default c = (
  nothing,
  None,
  [],
  is.Hears.has_no_moment (above c.in_default.ensures.found),
  c.become_nothing.ensures,
  no_octets c.args.lent.now,
  record { after_is = refl; size_is = refl },
)

pub returns-in-Err : goal.returns-in-Err
returns-in-Err c =
    let err = c.in-Err.ensures.err in (
      nothing,
      None,
      [],
      given (λ n node octets. Hears c.args.node.now c.args.now c.args.from c.args.octets.now n node nothing None octets) c.number.ensures err.1 refl
          (is.Hears.is_late (c.in-Some.ensures.found.0 refl) (subst (λ m. m < c.args.node.now.last) c.in-Some.ensures.value err.0)),
      c.become_nothing.ensures,
      no_octets c.args.lent.now,
      err.2,
    )
