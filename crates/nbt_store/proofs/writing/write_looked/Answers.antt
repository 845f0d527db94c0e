use Rattle.std.proofs.Common.{◌∙◌, ℕ, List, ◌++◌, ap}
use Rattle.std.specs.Prelude.{codes}
use Rattle.std.specs.String.{string_bytes}
use Rattle.nbt_store.proofs.Written.{looked_says}
use Rattle.nbt_store.proofs.writing.write_looked.Goals as goal

pub returns-clause-says : goal.returns-clause-says
returns-clause-says c =
    let d = c.in_ok-add_number.ensures in
    let w = c.in_ok-add_number-2.ensures in
    (looked_says (string_bytes c.push_str.new.self) (string_bytes c.add_number.new.out) (string_bytes c.add_number-2.new.out) d.0 w.0 c.args.day c.args.at
    (c.in_ok-push_str.ensures.bytes ∙ ap (λ (xs : List ℕ). xs ++ codes "looked") c.requires) d.1 d.2 w.1 w.2).0

pub returns-clause-line : goal.returns-clause-line
returns-clause-line c =
    let d = c.in_ok-add_number.ensures in
    let w = c.in_ok-add_number-2.ensures in
    (looked_says (string_bytes c.push_str.new.self) (string_bytes c.add_number.new.out) (string_bytes c.add_number-2.new.out) d.0 w.0 c.args.day c.args.at
    (c.in_ok-push_str.ensures.bytes ∙ ap (λ (xs : List ℕ). xs ++ codes "looked") c.requires) d.1 d.2 w.1 w.2).1
