use Rattle.nbt_c.proofs.Common.{◌≡◌, ◌↔◌, ℕ, ◌<◌, ◌≤◌, List, length, Result, Err, arith, true≢false, refl, sym, ap, subst, ◌∙◌, NameRefusal, Star, ScopeLong, BadLabel, refusal_number, IsScope, CName, stored, MakesAny}
use Rattle.std.proofs.Math.Nat.{lt_of_not-le}
use Rattle.nbt_name.specs.declared.name.Name.{Name}
use Rattle.nbt_c.specs.Names.{made, long, bad}
use Rattle.nbt_c.proofs.naming.nbt_name_any.Goals as goal

abbrev Same : NameRefusal → NameRefusal → Type 0
Same r t = ◌≡◌ {A = Result Name NameRefusal} (Err r) (Err t)

module _ (scope : List ℕ) (before : CName) where
  -- what is neither too long nor a bad label is a name's scope
  refused : (r : NameRefusal) → (Same r ScopeLong ↔ (221 < length scope)) → (Same r BadLabel ↔ ((length scope ≤ 221) × (¬ IsScope scope))) → (¬ ((length scope ≤ 221) × IsScope scope))
      → MakesAny scope before (refusal_number r) before
  refused Star l b n =
      let short : length scope < 222 = lt_of_not-le (λ more. let e : Same Star ScopeLong = l.1 more in absurd cc) in let fits : length scope ≤ 221 = omega arith in
      let e : Same Star BadLabel = b.1 (fits, λ labels. n (fits, labels)) in absurd cc
  refused ScopeLong l b n = long (l.0 refl)
  refused BadLabel l b n = bad (b.0 refl).0 (b.0 refl).1

pub returns-in-Ok : goal.returns-in-Ok
returns-in-Ok c =
    let found = c.in-Ok.ensures.found.0 refl in
    subst (MakesAny c.args.scope.now c.args.out.now 0) (sym (c.of.ensures ∙ ap stored c.in-Ok.ensures.name)) (made found.0 found.1)

pub returns-in-Err : goal.returns-in-Err
returns-in-Err c =
    subst (λ n. MakesAny c.args.scope.now c.args.out.now n c.args.out.now) (sym c.number.ensures)
    (refused c.args.scope.now c.args.out.now c.in-Err.refusal c.in-Err.ensures.long c.in-Err.ensures.bad (λ found. true≢false (sym (c.in-Err.ensures.found.1 found))))
