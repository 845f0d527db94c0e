use Rattle.nbt_c.proofs.Common.{◌≡◌, Some, None, refl, sym, ◌∙◌, Stands, above, moved}
use Rattle.nbt_node.specs.Standing.{standing}
use Rattle.nbt_c.specs.Nodes as is
use Rattle.nbt_c.proofs.hearing.stands.Goals as goal

pub returns-in_default : goal.returns-in_default
returns-in_default c = is.Stands.has_no_moment (above c.in_default.ensures.found)

pub returns-in_default-lend : goal.returns-in_default-lend
returns-in_default-lend c = is.Stands.has_no_name (c.in-Some.ensures.found.0 refl) c.in_default-lend.ensures.none

pub returns-in_default-standing : goal.returns-in_default-standing
returns-in_default-standing c =
    let read = c.in-Some-lend.ensures.read in let node = c.args.node.now in
    rw c.number.ensures (is.Stands.is_late (c.in-Some.ensures.found.0 refl) read.0
    (moved (λ m name. standing node name m ≡ None) c.in-Some.ensures.value read.1 (sym c.standing.ensures ∙ c.in_default-standing.is)))

pub returns : goal.returns
returns c =
    let read = c.in-Some-lend.ensures.read in let node = c.args.node.now in let it = c.in-Some-standing.standing in
    rw c.standing_number.ensures (is.Stands.stands it (c.in-Some.ensures.found.0 refl) read.0
    (moved (λ m name. standing node name m ≡ Some it) c.in-Some.ensures.value read.1 (sym c.standing.ensures ∙ c.in-Some-standing.is)))
