use Rattle.std.proofs.Common.{ℕ, ◌≤◌, ◌∙◌, subst}
use Rattle.nbt_store.specs.Outlasting.{not_longer}
use Rattle.nbt_store.proofs.outlasting.outlasts_with.Goals as goal

pub returns-then-loaded-from : goal.returns-then-loaded-from
returns-then-loaded-from c = not_longer (subst (λ (x : ℕ). c.args.loaded.now.header.longest ≤ x) (c.from.ensures ∙ c.longest.ensures.value) c.if-loaded-from.true)
