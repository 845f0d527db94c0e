use Rattle.std.proofs.Common.{◌∙◌, ◌∷◌, [], ◌++◌, refl, ap, arith}
use Rattle.std.specs.String.{string_bytes}
use Rattle.std.specs.Option.{option_to_list}
use Rattle.std.specs.Prelude.{Option}
use Rattle.std.proofs.lemmas.List.{length-append}
use Rattle.nbt_store.specs.declared.change.Change.{Change}
use Rattle.nbt_store.specs.DiskStores.{no_lines}
use Rattle.nbt_store.proofs.Asking.{split_on, line_on}
use Rattle.nbt_store.proofs.draft.Draft.write_part.Goals as goal

pub loop-init : goal.loop-init
loop-init c = ([], refl, refl, rw c.requires no_lines, refl, refl)

pub loop-preserved : goal.loop-preserved
loop-preserved c =
    let v = c.loop.invariant in
    let w = c.in_ok-self.ensures in
    let first = c.pop_front.ensures.items ∙ ap (λ (o : Option Change). option_to_list o ++ c.pop_front.new.self.items) c.in-Some.is in
    (v.0 ++ c.in-Some.change ∷ [], split_on _ v.0 _ _ c.in-Some.change v.1 first, length-append v.0 (c.in-Some.change ∷ []) ∙ omega (arith, v.2), line_on _ _ _ (string_bytes c.loop.out) _ w.0 v.0 c.in-Some.change v.3 w.1 w.2 w.3, v.4, v.5)
