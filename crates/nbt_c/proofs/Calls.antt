-- What the proofs of calls share: what a time's test says, moves along equations, and starts that are refused.
use Rattle.std.proofs.Common.{◌≡◌, ℕ, ◌+◌, ◌<◌, ◌≤◌, true, false, true≢false, List, Option, Some, None, IsNone, ◌↔◌, refl, sym, subst, arith}
use Rattle.std.proofs.Math.Nat.{lt_of_not-le}
use Rattle.nbt_name.specs.Wire.{NameValue}
use Rattle.nbt_lease.specs.declared.fault.ConfigFault.{ConfigFault}
use Rattle.nbt_lease.specs.declared.fault.ConfigFault.TheVariants.{Life, Longest, Rows}
use Rattle.nbt_lease.specs.Config.{ConfigValue, IsLife, IsLongest, IsRows}
use Rattle.nbt_lease.specs.Numbers.{config_fault_number}
use Rattle.nbt_c.specs.declared.ends.CConfig.{CConfig}
use Rattle.nbt_c.specs.Ends.{StartsWith, bad_life, bad_longest, bad_rows}

-- a test that failed
pub above : {a b : ℕ} → (◌≡◌ {A = mathlib.Core.Bool.Bool} false true ↔ (a ≤ b)) → b < a
above found = lt_of_not-le (λ le. true≢false (sym (found.1 le)))

pub at_least : {a b : ℕ} → (◌≡◌ {A = mathlib.Core.Bool.Bool} false true ↔ (a < b)) → b ≤ a
at_least {a = a} {b = b} found = let more : b < a + 1 = lt_of_not-le (λ lt. true≢false (sym (found.1 (let under : a < b = omega arith in under)))) in omega arith

pub none_of : {X : Type 0} (m : Option X) → IsNone m → m ≡ None
none_of None is = refl
none_of (Some x) is = absurd (true≢false is)

-- what is so of a moment and a name is so of equal ones
pub moved : (P : ℕ → NameValue → Type 0) {m now : ℕ} {a b : NameValue} → m ≡ now → a ≡ b → P m a → P now b
moved P at is = subst (λ (w : ℕ × NameValue). P w.0 w.1) (λ i. (at i, is i))

-- an answer, a node or server, and octets may be given by equal ones
pub given : {X : Type 0} (P : ℕ → X → List ℕ → Type 0) {n n' : ℕ} {a b : X} {xs ys : List ℕ} → n ≡ n' → a ≡ b → xs ≡ ys → P n' b ys → P n a xs
given {X = X} P at is same = subst (λ (w : ℕ × (X × List ℕ)). P w.0 w.1.0 w.1.1) (λ i. (sym at i, (sym is i, sym same i)))

-- a start
module _ {X : Type 0} {Begins : ConfigValue → X → Type 0} {config : CConfig} {now : ℕ} where
  pub answers : {n n' : ℕ} {a b : Option X} → n ≡ n' → a ≡ b → StartsWith Begins config now n' b → StartsWith Begins config now n a
  answers at is = subst (λ (w : ℕ × Option X). StartsWith Begins config now w.0 w.1) (λ i. (sym at i, sym is i))

  pub refused : (f : ConfigFault) → (f ≡ Life → ¬ IsLife config.life) → (f ≡ Longest → IsLife config.life × (¬ IsLongest config.longest))
      → (f ≡ Rows → IsLife config.life × IsLongest config.longest × (¬ IsRows config.rows)) → StartsWith Begins config now (config_fault_number f) None
  refused Life l m r = bad_life (l refl)
  refused Longest l m r = bad_longest (m refl).0 (m refl).1
  refused Rows l m r = bad_rows (r refl).0 (r refl).1 (r refl).2
