use Rattle.std.proofs.Common.{◌≡◌, ◌∙◌, ℕ, ◌<◌, ◌≤◌, List, [], ◌∷◌, length, codes, refl, sym, ap, subst, arith, slice_index_or, Bor}
use Rattle.nbt_text.specs.Texts.{texts}
use Rattle.nbt_port.specs.OwnAddresses.{Says}
use Rattle.nbt_port.specs.declared.machine_addresses.Line.{Line}
use Rattle.nbt_port.proofs.machine_addresses.said_by.Goals as goal

two : (words : List (Bor (List ℕ))) (d : Bor (List ℕ)) → 2 ≤ length words → length words < 3 → texts words ≡ (slice_index_or words 0 d).now ∷ (slice_index_or words 1 d).now ∷ []
two [] d some few = absurd (omega (arith, some))
two (x ∷ []) d some few = absurd (omega (arith, some))
two (x ∷ (y ∷ [])) d some few = refl
two (x ∷ (y ∷ (z ∷ rest))) d some few = absurd (omega (arith, few))

-- two words of which the first is the mark of a leaf
leaf : (words : List (Bor (List ℕ))) (d : Bor (List ℕ)) (said : Line) → 2 ≤ length words → length words < 3 → (slice_index_or words 0 d).now ≡ codes "|--"
    → Says (codes "|--" ∷ (slice_index_or words 1 d).now ∷ []) said → Says (texts words) said
leaf words d said some few mark says =
    subst (λ (ws : List (List ℕ)). Says ws said) (sym (two words d some few ∙ ap (λ (m : List ℕ). m ∷ (slice_index_or words 1 d).now ∷ []) mark)) says

pub returns-in-len2 : goal.returns-in-len2
returns-in-len2 c = leaf c.args.words.now _ c.leaf_of.result c.in-len2.len_at_least c.in-len2.len_below (c.is_text.ensures.0 c.if-is_text.true) c.leaf_of.ensures
