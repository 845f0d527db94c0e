-- Turns of an end that is meant to stay up: none, one that goes well, and one that fails.
use Rattle.std.proofs.Common.{◌≡◌, ◌≢◌, ℕ, ◌+◌, ◌<◌, [], ◌∷◌, ◌++◌, Some, None, Result, Ok, Err, OnErr, refl, ap, ◌∙◌, length-append}
use Rattle.std.specs.Prelude.{IfErr}
use Rattle.nbt_port.proofs.Chains.{chain-append}
use Rattle.nbt_port.specs.declared.fault.Fault.{Fault}
use Rattle.nbt_port.specs.declared.fault.Fault.TheVariants as f
use Rattle.nbt_port.specs.Staying.{GoesOn, goes_well, fails, Goes, StaysUp, GivesUp, IsCutOff, StaysUntil, takes_all, takes_the_last, EndsEarly}
use Rattle.nbt_port.specs.Numbers.{failures_most}

pub goes_none : {S X : Type 0} (turns : S → X → S → Type 0) (breaks : S → S → Type 0) (here : S) → Goes turns breaks 0 0 here here
goes_none turns breaks here = record { outcomes = []; run = refl; count_is = refl }

-- in each the row that is over, or longer, is known by another word
pub row_over : {S X : Type 0} (turns : S → X → S → Type 0) (breaks : S → S → Type 0) (count failed row : ℕ) (old mid new : S) (x : X)
    → row ≡ 0 → failed < failures_most → Goes turns breaks count failed old mid → turns mid x new → Goes turns breaks (count + 1) row old new
row_over turns breaks count failed row old mid new x is few before turn = rw is (record {
  outcomes = before.outcomes ++ Some x ∷ [];
  run = chain-append (GoesOn turns breaks) (record { here = old; failed = 0 }) (record { here = mid; failed = failed }) (record { here = new; failed = 0 })
      before.outcomes (Some x ∷ []) before.run (_, goes_well x new few turn, refl);
  count_is = length-append before.outcomes (Some x ∷ []) ∙ ap (λ (n : ℕ). n + 1) before.count_is;
})

pub row_longer : {S X : Type 0} (turns : S → X → S → Type 0) (breaks : S → S → Type 0) (count failed row : ℕ) (old mid new : S)
    → row ≡ failed + 1 → failed < failures_most → Goes turns breaks count failed old mid → breaks mid new → Goes turns breaks (count + 1) row old new
row_longer turns breaks count failed row old mid new is few before broken = rw is (record {
  outcomes = before.outcomes ++ None ∷ [];
  run = chain-append (GoesOn turns breaks) (record { here = old; failed = 0 }) (record { here = mid; failed = failed }) (record { here = new; failed = failed + 1 })
      before.outcomes (None ∷ []) before.run (_, fails new few broken, refl);
  count_is = length-append before.outcomes (None ∷ []) ∙ ap (λ (n : ℕ). n + 1) before.count_is;
})

-- without a last turn it takes all turns
pub stays_up : {S X : Type 0} (turns : S → X → S → Type 0) (breaks : S → S → Type 0) (most : ℕ) (old new : S) → StaysUntil turns breaks (λ _ _. ⊥) most old new → StaysUp turns breaks most old new
stays_up turns breaks most old new (takes_all all) = all
stays_up turns breaks most old new (takes_the_last cut) = absurd cut.4

-- a turn cuts it off for a fault that isn't the device's
pub cut_off : {S X : Type 0} (turns : S → X → S → Type 0) (breaks : S → S → Type 0) (cuts : Fault → S → S → Type 0) (most : ℕ) (fault : Fault) (old new : S)
    → fault ≢ f.Device → IsCutOff turns breaks (cuts fault) most old new → EndsEarly turns breaks cuts most fault old new
cut_off turns breaks cuts most f.NoPort old new other cut = cut
cut_off turns breaks cuts most f.NoClock old new other cut = cut
cut_off turns breaks cuts most f.Device old new other cut = absurd (other refl)
cut_off turns breaks cuts most f.Output old new other cut = cut
cut_off turns breaks cuts most f.Store old new other cut = cut
cut_off turns breaks cuts most f.Memory old new other cut = cut

-- where no turn cuts it off, it gives up
pub gives_up : {S X A : Type 0} (turns : S → X → S → Type 0) (breaks : S → S → Type 0) (most : ℕ) (old new : S) (r : Result A Fault)
    → IfErr r (λ fault. EndsEarly turns breaks (λ _ _ _. ⊥) most fault old new) → OnErr r (GivesUp turns breaks most old new) × IfErr r (λ fault. fault ≡ f.Device)
gives_up turns breaks most old new (Ok done) ended = (tt, tt)
gives_up turns breaks most old new (Err f.NoPort) ended = absurd ended.4
gives_up turns breaks most old new (Err f.NoClock) ended = absurd ended.4
gives_up turns breaks most old new (Err f.Device) ended = (ended, refl)
gives_up turns breaks most old new (Err f.Output) ended = absurd ended.4
gives_up turns breaks most old new (Err f.Store) ended = absurd ended.4
gives_up turns breaks most old new (Err f.Memory) ended = absurd ended.4
