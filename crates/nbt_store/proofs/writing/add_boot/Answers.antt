use Rattle.std.proofs.Common.{◌∙◌, ℕ, List, ◌++◌, ap, refl}
use Rattle.std.specs.String.{string_bytes}
use Rattle.nbt_store.proofs.WordLists.{adds_behind, boot_word}
use Rattle.nbt_store.proofs.writing.add_boot.Goals as goal

pub returns : goal.returns
returns c =
    let text = c.args.boot.now in
    let is = c.octets.ensures.boot in (
      text,
      (refl, is),
      adds_behind (string_bytes c.args.out.now) (string_bytes c.push_marks.new.out) text (boot_word text is)
          (c.in_ok-push_marks.ensures ∙ ap (λ (xs : List ℕ). string_bytes c.push_str.new.self ++ xs) c.octets.ensures.value ∙ ap (λ (xs : List ℕ). xs ++ text) c.in_ok-push_str.ensures.bytes),
    )
