-- The first name that passes.
use Rattle.std.proofs.Common.{◌≡◌, ℕ, ◌<◌, ◌≤◌, Bool, true, false, List, ◌++◌, length, take, drop, Option, Some, None, sym, subst}
use Rattle.std.proofs.lemmas.List.{take-append-drop, length-take-le}
use Rattle.nbt_scan.specs.Hosts.{IsFirst, in_none, in_first, in_rest}

-- what is first in the rest is first in all
abbrev pub Leads : (test : List ℕ → Bool) → (all rest : List ℕ) → Type 0
Leads test all rest = (found : Option (List ℕ)) → IsFirst test rest found → IsFirst test all found

module _ (test : List ℕ → Bool) (all rest first others : List ℕ) (e : first ≡ take 18 rest) (f : others ≡ drop 18 rest) (enough : 18 ≤ length rest) (leads : Leads test all rest) where
  parts : rest ≡ first ++ others
  parts = rw (e, f) (sym (take-append-drop 18 rest))

  long : length first ≡ 18
  long = rw e (length-take-le 18 rest enough)

  -- the next one doesn't
  pub next_fails : test first ≡ false → Leads test all others
  next_fails fails = λ found is. leads found (subst (λ (z : List ℕ). IsFirst test z found) (sym parts) (in_rest first others found long fails is))

  -- it does
  pub next_passes : test first ≡ true → IsFirst test all (Some first)
  next_passes holds = leads (Some first) (subst (λ (z : List ℕ). IsFirst test z (Some first)) (sym parts) (in_first first others long holds))

-- none does
pub none_passes : (test : List ℕ → Bool) (all rest : List ℕ) → length rest < 18 → Leads test all rest → IsFirst test all None
none_passes test all rest few leads = leads None (in_none rest few)
