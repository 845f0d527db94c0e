use Rattle.std.proofs.Common.{◌∙◌, ℕ, List, ◌++◌, ap}
use Rattle.std.specs.Prelude.{codes}
use Rattle.std.specs.String.{string_bytes}
use Rattle.nbt_store.proofs.Written.{released_says}
use Rattle.nbt_store.proofs.writing.write_released.Goals as goal

pub returns-clause-says : goal.returns-clause-says
returns-clause-says c =
    let n = c.in_ok-add_name.ensures in
    let h = c.in_ok-add_host.ensures in
    let w = c.in_ok-add_number.ensures in
    (released_says (string_bytes c.push_str.new.self) (string_bytes c.add_name.new.out) (string_bytes c.add_host.new.out) (string_bytes c.add_number.new.out) n.0 h.0 w.0 c.args.name.now c.args.addr c.args.at
    (c.in_ok-push_str.ensures.bytes ∙ ap (λ (xs : List ℕ). xs ++ codes "released") c.requires) n.1 n.2 h.1 h.2 w.1 w.2).0

pub returns-clause-line : goal.returns-clause-line
returns-clause-line c =
    let n = c.in_ok-add_name.ensures in
    let h = c.in_ok-add_host.ensures in
    let w = c.in_ok-add_number.ensures in
    (released_says (string_bytes c.push_str.new.self) (string_bytes c.add_name.new.out) (string_bytes c.add_host.new.out) (string_bytes c.add_number.new.out) n.0 h.0 w.0 c.args.name.now c.args.addr c.args.at
    (c.in_ok-push_str.ensures.bytes ∙ ap (λ (xs : List ℕ). xs ++ codes "released") c.requires) n.1 n.2 h.1 h.2 w.1 w.2).1
