use Rattle.std.proofs.Common.{◌∙◌, ℕ, List, ◌++◌, ap, rules}
use Rattle.std.specs.Fmt.{decimal}
use Rattle.std.specs.String.{string_bytes}
use Rattle.nbt_store.proofs.WordLists.{adds_behind, decimal_word}
use Rattle.nbt_store.proofs.Written.{spells_number}
use Rattle.nbt_store.proofs.writing.add_number.Goals as goal

pub returns : goal.returns
returns c =
    let text = decimal c.args.number in (
      text,
      spells_number c.args.number (search rules),
      adds_behind (string_bytes c.args.out.now) (string_bytes c.push_number.new.out) text (decimal_word c.args.number (search rules))
          (c.in_ok-push_number.ensures ∙ ap (λ (xs : List ℕ). xs ++ text) c.in_ok-push_str.ensures.bytes),
    )
