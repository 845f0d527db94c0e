-- The first request that passes a test, and what is left where none does.
use Rattle.std.proofs.Common.{◌≡◌, true, false, Bool, List, [], ◌∷◌, Option, Some, None, refl, ap, ◌∙◌}
use Rattle.std.specs.Prelude.{IfNone}
use Rattle.std.specs.List.{find}
use Rattle.std.specs.Option.{option_map}
use Rattle.nbt_confirm.specs.declared.request.Request.{Request}
use Rattle.nbt_confirm.specs.declared.waits.Served.{Served}
use Rattle.nbt_confirm.specs.Firsts.{without_first}
use Rattle.nbt_confirm.specs.Waiting.{WaitsValue}
use Rattle.nbt_waits.specs.declared.asking.Asking.{Asking}

none_passes : {X : Type 0} (test : X → Bool) (xs : List X) → find test xs ≡ None → without_first test xs ≡ xs
none_passes test [] none = refl
none_passes {X} test (x ∷ xs) none = elim (test x) as (λ b. test x ≡ b → without_first test (x ∷ xs) ≡ x ∷ xs) [
  | true ↦ λ passes. let some : ◌≡◌ {A = Option X} (Some x) None = rw passes at none in absurd cc
  | false ↦ λ fails. rw fails (ap (λ (ys : List X). x ∷ ys) (none_passes test xs (rw fails at none)))
] refl

pub at_none : {X : Type 0} {P : Type 0} (found : Option X) → P → IfNone found P
at_none None is = is
at_none (Some x) is = tt

-- where none passes, nothing changes
pub none_waits : (test : Request → Bool) (old : Asking) (waits : WaitsValue) → find test old.waits.requests ≡ None → waits ≡ record old.waits { requests = without_first test old.waits.requests }
    → (find test old.waits.requests ≡ None) × (record old { waits = waits } ≡ old)
none_waits test old waits none is =
    (none, ap (λ (w : WaitsValue). record old { waits = w }) (is ∙ ap (λ (rs : List Request). record old.waits { requests = rs }) (none_passes test old.waits.requests none)))

-- none was served
pub none_served : (f : Request → Served) (found : Option Request) → None ≡ option_map f found → found ≡ None
none_served f None is = refl
none_served f (Some r) is = absurd cc

-- one was
pub one_served : (f : Request → Served) (found : Option Request) (served : Served) → Some served ≡ option_map f found → (r : Request) × (found ≡ Some r) × (served ≡ f r)
one_served f None served is = absurd cc
one_served f (Some r) served is = (r, refl, cc)
