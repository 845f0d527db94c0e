use Rattle.std.proofs.Common.{ℕ, List, [], ◌∷◌, ◌++◌, ap, ◌∙◌}
use Rattle.std.specs.Prelude.{map}
use Rattle.std.specs.String.{string_bytes}
use Rattle.std.proofs.lemmas.List.{map_push}
use Rattle.nbt_nbns.proofs.place.MemoryPlacePlace.replace.Goals as goal

pub returns-clause-ok : goal.returns-clause-ok
returns-clause-ok c =
    ap (map string_bytes) c.in_ok-push.ensures.items ∙ map_push string_bytes c.self.inside.texts.items c.in_ok-text.text
    ∙ ap (λ (text : List ℕ). map string_bytes c.self.inside.texts.items ++ text ∷ []) c.in_ok-text.ensures.ok ∙ ap (λ (texts : List (List ℕ)). texts ++ c.args.text.now ∷ []) c.self.view_is
