use Rattle.std.proofs.Common.{◌≡◌, ◌∙◌, ℕ, List, ◌++◌, ap, sym, rules}
use Rattle.std.specs.Fmt.{decimal}
use Rattle.std.specs.String.{string_bytes}
use Rattle.nbt_text.specs.Lines.{words as words_of}
use Rattle.nbt_store.specs.Lines.{IsLine}
use Rattle.std.proofs.Common.{subst}
use Rattle.nbt_store.proofs.WordLists.{decimal_word, one_word, marks_line}
use Rattle.nbt_store.proofs.Written.{spells_number}
use Rattle.nbt_store.proofs.writing.put_number.Goals as goal

pub returns : goal.returns
returns c =
    let text = decimal c.args.number in
    let word = decimal_word c.args.number (search rules) in
    let is : string_bytes c.push_number.new.out ≡ text = c.in_ok-push_number.ensures ∙ ap (λ (xs : List ℕ). xs ++ text) c.requires in
    (text, spells_number c.args.number (search rules), ap words_of is ∙ one_word text word, subst IsLine (sym is) (marks_line text word.marks))
