use Rattle.nbt_c.proofs.Common.{◌≡◌, ◌≢◌, ℕ, ◌<◌, ◌≤◌, List, length, slice_index, Err, refl, sym, ap, subst, ◌∙◌, NameRefusal, Star, ScopeLong, BadLabel, refusal_number, IsScope, CName, stored, Makes}
use Rattle.nbt_c.specs.Names.{made, star, long, bad}
use Rattle.nbt_c.proofs.naming.nbt_name_make.Goals as goal

module _ (octets scope : List ℕ) (before : CName) where
  refused : (r : NameRefusal) → (r ≡ Star → slice_index octets 0 ≡ 0x2A) → (r ≡ ScopeLong → (slice_index octets 0 ≢ 0x2A) × (221 < length scope))
      → (r ≡ BadLabel → (slice_index octets 0 ≢ 0x2A) × (length scope ≤ 221) × (¬ IsScope scope)) → Makes octets scope before (refusal_number r) before
  refused Star s l b = star (s refl)
  refused ScopeLong s l b = long (l refl).0 (l refl).1
  refused BadLabel s l b = bad (b refl).0 (b refl).1 (b refl).2

pub returns-in-Ok : goal.returns-in-Ok
returns-in-Ok c =
    let found = c.in-Ok.ensures.found.0 refl in
    subst (Makes c.args.octets.now c.args.scope.now c.args.out.now 0) (sym (c.of.ensures ∙ ap stored c.in-Ok.ensures.name)) (made found.0 found.1 found.2)

pub returns-in-Err : goal.returns-in-Err
returns-in-Err c =
    subst (λ n. Makes c.args.octets.now c.args.scope.now c.args.out.now n c.args.out.now) (sym c.number.ensures)
    (refused c.args.octets.now c.args.scope.now c.args.out.now c.in-Err.refusal (λ e. c.in-Err.ensures.star.0 (ap Err e)) (λ e. c.in-Err.ensures.long.0 (ap Err e)) (λ e. c.in-Err.ensures.bad.0 (ap Err e)))
