use Rattle.std.proofs.Common.{ap, sym, ◌∙◌, inl, inr}
use Rattle.nbt_serve.specs.Sharing.{ShareValue}
use Rattle.nbt_serve.specs.Inner.Sharing.{is_free}
use Rattle.nbt_serve.proofs.share.Share.admit.Goals as goal

pub returns-then-self-eq0 : goal.returns-then-self-eq0
returns-then-self-eq0 c = is_free (inl (ap (λ (s : ShareValue). s.limit) (sym c.self.view_is) ∙ c.if-self-eq0.true))

pub returns-then-not-asks_for_change : goal.returns-then-not-asks_for_change
returns-then-not-asks_for_change c = is_free (inr (λ asks. let e = c.if-not-asks_for_change.ensures.1 asks in absurd cc))
