-- When a hold and the slots have something to send next.
use Rattle.std.proofs.Common.{◌≡◌, ℕ, ◌+◌, ◌<◌, ◌≤◌, Bool, true, false, cond, ltb, leb, List, [], ◌∷◌, ◌++◌, Option, Some, None, refl, ◌∙◌, inl, inr, arith}
use Rattle.std.specs.Prelude.{◌||◌, is_some}
use Rattle.std.proofs.lemmas.Bool.{cases_lt, le-leb, lt-leb}
use Rattle.nbt_lease.specs.Drift.{quiet}
use Rattle.nbt_name.specs.declared.addr.Kind.{Kind}
use Rattle.nbt_node.specs.declared.state.State.TheVariants.{Idle, Held, Resting}
use Rattle.nbt_node.specs.declared.state.Slot.{Slot}
use Rattle.nbt_node.specs.declared.transaction.Transaction.{Transaction}
use Rattle.nbt_node.specs.Settling.{rested, pending_at, settled}
use Rattle.nbt_node.specs.Moves.{is_due}
use Rattle.nbt_node.specs.Calls.{first_due}
use Rattle.nbt_node.specs.Waiting.{IsFirst}

pub same_first : (f g : ℕ → Bool) (since : ℕ) (a : Option ℕ) → ((time : ℕ) → f time ≡ g time) → IsFirst g since a → IsFirst f since a
same_first f g since None same never = λ time from. same time ∙ never time from
same_first f g since (Some first) same is = (is.0, same first ∙ is.1, λ time from before. same time ∙ is.2 time from before)

-- ---- a hold, whose refresh is due from a time on, while it lasts

rested_sends_nothing : (life now last : ℕ) → is_due life now (rested life now last) ≡ false
rested_sends_nothing life now last = go (ltb (last + quiet life) now)
  where
    go : (b : Bool) → is_due life now (cond b Idle (Resting last)) ≡ false
    go true = refl
    go false = refl

module _ (life since : ℕ) (kind : Kind) (ttl until renew last from : ℕ) (pending : Option Transaction) where
  abbrev sends : ℕ → Bool
  sends now = is_due life now (settled life now (Held kind ttl until renew last pending))

  abbrev pub IsFrom : Type 0
  IsFrom = (now : ℕ) → since ≤ now → is_due life now (Held kind ttl until renew last (pending_at now pending)) ≡ leb from now

  after_its_end : (now : ℕ) → until ≤ now → sends now ≡ false
  after_its_end now over = rw (le-leb until now over) (rested_sends_nothing life now last)

  before_its_end : IsFrom → (now : ℕ) → since ≤ now → now < until → sends now ≡ leb from now
  before_its_end is now later lasts = rw (lt-leb until now lasts) (is now later)

  pub held_first : IsFrom → since ≤ from → from < until → IsFirst sends since (Some from)
  held_first is later lasts = (
    later,
    before_its_end is from later lasts ∙ le-leb from from (omega arith),
    λ time since_then before. before_its_end is time since_then (omega (arith, before, lasts)) ∙ lt-leb from time before,
  )

  pub held_never : IsFrom → until ≤ from → IsFirst sends since None
  held_never is over = λ time later. elim (cases_lt time until) [
    | inl lasts ↦ before_its_end is time later lasts ∙ lt-leb from time (omega (arith, lasts, over))
    | inr ended ↦ after_its_end time ended
  ]

-- ---- one slot more

pub one_more : (life now : ℕ) (slots : List (Option Slot)) (slot : Option Slot) → is_some (first_due life now (slots ++ slot ∷ [])) ≡ (is_some (first_due life now slots) || is_some (first_due life now (slot ∷ [])))
one_more life now [] slot = refl
one_more life now (None ∷ rest) slot = one_more life now rest slot
one_more life now (Some s ∷ rest) slot = go (one_more life now rest slot) (is_due life now s.state)
  where
    go : (is_some (first_due life now (rest ++ slot ∷ [])) ≡ (is_some (first_due life now rest) || is_some (first_due life now (slot ∷ [])))) → (b : Bool)
        → is_some (cond b (Some s) (first_due life now (rest ++ slot ∷ []))) ≡ (is_some (cond b (Some s) (first_due life now rest)) || is_some (first_due life now (slot ∷ [])))
    go behind true = refl
    go behind false = behind
