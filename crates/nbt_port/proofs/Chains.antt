-- Steps in order: one of them, and some after others.
use Rattle.std.proofs.Common.{List, [], ◌∷◌, ◌++◌, refl, subst}
use Rattle.nbt_port.specs.PortCalls.{Chain}

pub chain_one : {S X : Type 0} (step : S → X → S → Type 0) (old : S) (x : X) (new : S) → step old x new → Chain step old (x ∷ []) new
chain_one step old x new h = (new, h, refl)

pub chain-append : {S X : Type 0} (step : S → X → S → Type 0) (old mid new : S) (xs ys : List X) → Chain step old xs mid → Chain step mid ys new → Chain step old (xs ++ ys) new
chain-append step old mid new [] ys front back = subst (λ s. Chain step s ys new) front back
chain-append step old mid new (x ∷ xs) ys front back = (front.0, front.1, chain-append step front.0 mid new xs ys front.2 back)

pub chain_on : {S X : Type 0} (step : S → X → S → Type 0) (old mid new : S) (xs : List X) (x : X) → Chain step old xs mid → step mid x new → Chain step old (xs ++ x ∷ []) new
chain_on step old mid new [] x before last = (new, subst (λ s. step s x new) before last, refl)
chain_on step old mid new (y ∷ ys) x before last = (before.0, before.1, chain_on step before.0 mid new ys x before.2 last)
