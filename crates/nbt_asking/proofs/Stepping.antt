-- Steps, one after the other.
use Rattle.std.proofs.Common.{◌≡◌, ℕ, ◌+◌, ◌≤◌, Bool, true, false, subst}
use Rattle.nbt_asking.specs.Inner.Doing.{One}
use Rattle.nbt_asking.specs.Steps.{AsMany, Times, all, enough, one_more}

module _ {S : Type 0} (step ends : S → S → Type 0) where
  pub goes_on : (n : ℕ) (old mid new : S) (is : Bool) → Times step old n mid → One step ends is mid new → is ≡ true → Times step old (n + 1) new
  goes_on n old mid new is so_far one was = one_more n mid new so_far (subst (λ (b : Bool). One step ends b mid new) was one)

  pub ends_so : (most n : ℕ) (old last new : S) (is : Bool) → n ≤ most → Times step old n last → One step ends is last new → is ≡ false → AsMany most step ends old new
  ends_so most n old last new is few so_far one was = all n last new few so_far (subst (λ (b : Bool). One step ends b last new) was one)

  pub has_enough : (most n : ℕ) (old new : S) → n ≡ most → Times step old n new → AsMany most step ends old new
  has_enough most n old new is so_far = enough new (subst (λ (k : ℕ). Times step old k new) is so_far)
