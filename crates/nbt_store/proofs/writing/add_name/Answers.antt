use Rattle.std.proofs.Common.{◌∙◌, ℕ, List, ◌++◌, ap}
use Rattle.std.specs.String.{string_bytes}
use Rattle.nbt_text.proofs.PrintedNames.{printed_spells}
use Rattle.nbt_store.proofs.WordLists.{adds_behind, name_word}
use Rattle.nbt_store.proofs.writing.add_name.Goals as goal

pub returns : goal.returns
returns c =
    let text = c.in_ok-write_name.ensures in
    let is = c.octets-sixteen.ensures.name in (
      text.0,
      printed_spells c.args.name.now text.0 is text.2,
      adds_behind (string_bytes c.args.out.now) (string_bytes c.write_name.new.out) text.0 (name_word c.args.name.now text.0 is text.2)
          (text.1 ∙ ap (λ (xs : List ℕ). xs ++ text.0) c.in_ok-push_str.ensures.bytes),
    )
