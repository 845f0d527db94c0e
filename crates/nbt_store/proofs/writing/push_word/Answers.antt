use Rattle.std.proofs.Common.{◌∙◌, ℕ, List, ◌++◌, ap}
use Rattle.std.specs.String.{string_bytes}
use Rattle.nbt_store.proofs.WordLists.{adds_behind}
use Rattle.nbt_store.proofs.writing.push_word.Goals as goal

pub returns : goal.returns
returns c = adds_behind (string_bytes c.args.out.now) (string_bytes c.push_str-2.new.self) c.args.word.now c.requires (c.in_ok-push_str-2.ensures.bytes ∙ ap (λ (xs : List ℕ). xs ++ c.args.word.now) c.in_ok-push_str.ensures.bytes)
