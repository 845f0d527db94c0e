-- A run that goes on by one event.
use Rattle.std.proofs.Common.{◌≡◌, ℕ, ◌+◌, ◌<◌, ◌≤◌, List, [], ◌∷◌, ◌++◌, length, take, get_or, refl, sym, subst}
use Rattle.std.specs.Prelude.{slice_get, IfSome}
use Rattle.std.proofs.lemmas.List.{take_more, take_all}
use Rattle.std.proofs.lemmas.Option.{slice_get_read}
use Rattle.nbt_world.specs.declared.event.Event.{Event}
use Rattle.nbt_world.specs.declared.event.Outcome.{Outcome}
use Rattle.nbt_world.specs.World.{WorldValue}
use Rattle.nbt_world.specs.Step.{Step, TakesNoMemory}
use Rattle.nbt_world.specs.Safety.{Run, ends, goes_on}

run_more : {events : List Event} {w last next : WorldValue} {worlds : List WorldValue} {event : Event} {outcome : Outcome} → Run events w worlds last → Step last event outcome next
    → Run (events ++ event ∷ []) w (worlds ++ next ∷ []) next
run_more (ends v) step = goes_on _ _ _ _ _ _ _ step (ends _)
run_more (goes_on v u l e o es ws s r) step = goes_on _ _ _ _ _ _ _ s (run_more r step)

pub run_next : (events : List Event) (k : ℕ) {w last next : WorldValue} {worlds : List WorldValue} {event : Event} {outcome : Outcome} → k < length events → event ≡ get_or events k event
    → Run (take k events) w worlds last → Step last event outcome next → Run (take (k + 1) events) w (worlds ++ next ∷ []) next
run_next events k {w} {next = next} {worlds} {event} within is run step =
    subst (λ (es : List Event). Run es w (worlds ++ next ∷ []) next) (sym (take_more events k event within))
    (subst (λ (x : Event). Run (take k events ++ x ∷ []) w (worlds ++ next ∷ []) next) is (run_more run step))

pub run_whole : (events : List Event) (k : ℕ) {w last : WorldValue} {worlds : List WorldValue} → length events ≤ k → Run (take k events) w worlds last → Run events w worlds last
run_whole events k {w} {last} {worlds} le run = subst (λ (es : List Event). Run es w worlds last) (take_all k events le) run

-- the event at which a run stopped takes memory
pub stopped_at : (events : List Event) (k : ℕ) (event : Event) → k < length events → event ≡ get_or events k event → (TakesNoMemory event → ⊥) → IfSome (slice_get events k) (λ e. ¬ TakesNoMemory e)
stopped_at events k event within is takes = rw (slice_get_read events (length events) k event refl within is) takes

-- ---- runs of one event, two and three

pub ran_one : {a b : WorldValue} {e : Event} {x : Outcome} → Step a e x b → Run (e ∷ []) a (a ∷ b ∷ []) b
ran_one s = goes_on _ _ _ _ _ _ _ s (ends _)

pub ran_two : {a b c : WorldValue} {e f : Event} {x y : Outcome} → Step a e x b → Step b f y c → Run (e ∷ f ∷ []) a (a ∷ b ∷ c ∷ []) c
ran_two s t = goes_on _ _ _ _ _ _ _ s (ran_one t)

pub ran_three : {a b c d : WorldValue} {e f g : Event} {x y z : Outcome} → Step a e x b → Step b f y c → Step c g z d → Run (e ∷ f ∷ g ∷ []) a (a ∷ b ∷ c ∷ d ∷ []) d
ran_three s t u = goes_on _ _ _ _ _ _ _ s (ran_two t u)
