use Rattle.nbt_c.proofs.Common.{◌≡◌, None, refl, ap, ◌∙◌, holds, name_in, held_number, above, moved}
use Rattle.nbt_c.specs.Nodes as is
use Rattle.nbt_c.proofs.hearing.holds.Goals as goal

pub returns-in_default : goal.returns-in_default
returns-in_default c = (None, is.Holds.has_no_moment (above c.in_default.ensures.found), refl)

pub returns-in_default-lend : goal.returns-in_default-lend
returns-in_default-lend c = (None, is.Holds.has_no_name (c.in-Some.ensures.found.0 refl) c.in_default-lend.ensures.none, refl)

pub returns : goal.returns
returns c =
    let read = c.in-Some-lend.ensures.read in (
      holds c.args.node.now (name_in c.args.name.now) c.args.now,
      is.Holds.is_asked (c.in-Some.ensures.found.0 refl) read.0,
      c.held_number.ensures ∙ ap held_number (moved (λ m name. c.holds.result ≡ holds c.args.node.now name m) c.in-Some.ensures.value read.1 c.holds.ensures),
    )
