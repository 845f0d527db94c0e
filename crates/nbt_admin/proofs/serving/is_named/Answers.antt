use Rattle.std.proofs.Common.{◌≡◌, ◌∙◌, ℕ, length, inr, ap, true, take, ◌-◌, List, [], ◌∷◌, ◌++◌}
use Rattle.std.specs.Prelude.{Some, None, ◌==◌}
use Rattle.std.proofs.lemmas.Slice.Eq.{ends_is, strip_suffix_is}
use Rattle.std.proofs.lemmas.Bool.Decides.{Decides-eqb}
use Rattle.nbt_admin.specs.Serving.{slash}
use Rattle.nbt_admin.proofs.Named.{before_name, ends_in_slash}
use Rattle.nbt_admin.proofs.serving.is_named.Goals as goal

pub returns-else-is_empty : goal.returns-else-is_empty
returns-else-is_empty c =
    let name = c.args.name.now in
    let path = c.args.path.now in
    let folder = c.in-Some.folder.now in
    let parts : path ≡ folder ++ name = strip_suffix_is Decides-eqb path name (Some c.in-Some.folder) c.in-Some.ensures.cases in
    let ends = ends_is Decides-eqb folder (slash ∷ []) c.ends_with.result c.ends_with.ensures.value in (
      (λ yes. record { folder = folder; path_is = parts; before = inr (take (length folder - 1) folder, ends.0 yes) }),
      (λ named.
          ends_in_slash folder c.ends_with.result (λ none. let is : c.is_empty.result ≡ true = c.is_empty.ensures ∙ ap (λ (xs : List ℕ). length xs == 0) none in let other = c.if-is_empty.false in absurd cc)
          ends.1 (before_name name path folder parts named)),
    )

pub returns-in-None : goal.returns-in-None
returns-in-None c = ((λ yes. absurd cc), (λ named. absurd (strip_suffix_is Decides-eqb c.args.path.now c.args.name.now None c.in-None.ensures.cases named.folder named.path_is)))
