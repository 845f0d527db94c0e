-- What stays up for some turns, whichever way it ends: what each of its turns is, all are.
use Rattle.std.proofs.Common.{ℕ, List, [], ◌∷◌, Option, sym, subst}
use Rattle.nbt_port.specs.PortCalls.{Chain}
use Rattle.nbt_port.specs.Staying.{Standing, GoesOn, goes_well, fails, Goes, IsCutOff, StaysUntil, takes_all, takes_the_last, EndsEarly}
use Rattle.nbt_port.specs.declared.fault.Fault.{Fault}
use Rattle.nbt_port.specs.declared.fault.Fault.TheVariants as why
use Rattle.nbt_port.specs.declared.fault.Fault.TheVariants.{Device}

-- a relation of what was before to what is after, which holds over any number of turns
pub record IsOverall {S X : Type 0} (turns : S → X → S → Type 0) (breaks : S → S → Type 0) (R : S → S → Type 0) : Type 0 where
  pub none : (here : S) → R here here
  pub both : (old mid new : S) → R old mid → R mid new → R old new
  pub of_turn : (old new : S) (x : X) → turns old x new → R old new
  pub of_break : (old new : S) → breaks old new → R old new

module _ {S X : Type 0} (turns : S → X → S → Type 0) (breaks : S → S → Type 0) (R : S → S → Type 0) (o : IsOverall turns breaks R) where
  one : (old new : Standing S) (outcome : Option X) → GoesOn turns breaks old outcome new → R old.here new.here
  one old _ _ (goes_well x new before turn) = o.of_turn old.here new x turn
  one old _ _ (fails new before breaks_so) = o.of_break old.here new breaks_so

  some : (outcomes : List (Option X)) (old new : Standing S) → Chain (GoesOn turns breaks) old outcomes new → R old.here new.here
  some [] old new chain = subst (λ (s : Standing S). R old.here s.here) (sym chain) (o.none old.here)
  some (outcome ∷ outcomes) old new chain = o.both old.here chain.0.here new.here (one old chain.0 outcome chain.1) (some outcomes chain.0 new chain.2)

  went : (count failed : ℕ) (old new : S) → Goes turns breaks count failed old new → R old new
  went count failed old new goes = some goes.outcomes (record { here = old; failed = 0 }) (record { here = new; failed = failed }) goes.run

  -- and what it came to in the end
  module _ (Q : S → S → Type 0) (all : (old new : S) → R old new → Q old new) where
    cut : (cuts : S → S → Type 0) (most : ℕ) (old new : S) → ((mid : S) → R old mid → cuts mid new → Q old new) → IsCutOff turns breaks cuts most old new → Q old new
    cut cuts most old new each (count, mid, fewer, stays, last) = each mid (went count stays.0 old mid stays.2) last

    pub stays_until : (last : S → S → Type 0) (most : ℕ) (old new : S) → ((mid : S) → R old mid → last mid new → Q old new) → StaysUntil turns breaks last most old new → Q old new
    stays_until last most old new each (takes_all stays) = all old new (went most stays.0 old new stays.2)
    stays_until last most old new each (takes_the_last is_cut) = cut last most old new each is_cut

    pub ends_early : (cuts : Fault → S → S → Type 0) (most : ℕ) (fault : Fault) (old new : S) → ((fault : Fault) (mid : S) → R old mid → cuts fault mid new → Q old new) → EndsEarly turns breaks cuts most fault old new → Q old new
    ends_early cuts most Device old new each ends = all old new (went ends.0 _ old new ends.2)
    ends_early cuts most why.NoPort old new each ends = cut (cuts why.NoPort) most old new (each why.NoPort) ends
    ends_early cuts most why.NoClock old new each ends = cut (cuts why.NoClock) most old new (each why.NoClock) ends
    ends_early cuts most why.Output old new each ends = cut (cuts why.Output) most old new (each why.Output) ends
    ends_early cuts most why.Store old new each ends = cut (cuts why.Store) most old new (each why.Store) ends
    ends_early cuts most why.Memory old new each ends = cut (cuts why.Memory) most old new (each why.Memory) ends
