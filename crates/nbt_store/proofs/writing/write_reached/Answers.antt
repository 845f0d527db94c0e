use Rattle.std.proofs.Common.{◌∙◌, ℕ, List, ◌++◌, ap}
use Rattle.std.specs.Prelude.{codes}
use Rattle.std.specs.String.{string_bytes}
use Rattle.nbt_store.proofs.Written.{reached_says}
use Rattle.nbt_store.proofs.writing.write_reached.Goals as goal

pub returns-clause-says : goal.returns-clause-says
returns-clause-says c =
    let w = c.in_ok-add_number.ensures in
    (reached_says (string_bytes c.push_str.new.self) (string_bytes c.add_number.new.out) w.0 c.args.at
    (c.in_ok-push_str.ensures.bytes ∙ ap (λ (xs : List ℕ). xs ++ codes "reached") c.requires) w.1 w.2).0

pub returns-clause-line : goal.returns-clause-line
returns-clause-line c =
    let w = c.in_ok-add_number.ensures in
    (reached_says (string_bytes c.push_str.new.self) (string_bytes c.add_number.new.out) w.0 c.args.at
    (c.in_ok-push_str.ensures.bytes ∙ ap (λ (xs : List ℕ). xs ++ codes "reached") c.requires) w.1 w.2).1
