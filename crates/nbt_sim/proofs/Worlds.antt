-- Where a tick leads, and whose fault a refusal is.
use Rattle.std.proofs.Common.{◌≡◌, ◌∙◌, ℕ, ◌+◌, ◌-◌, ◌^◌, ◌≤◌, List, Some, None, refl, ap, subst, arith, min}
use Rattle.std.proofs.lemmas.Option.{none-some}
use Rattle.nbt_node.specs.Node.{NodeValue}
use Rattle.nbt_node.specs.Numbers.{ask_fault_number, ask_fault_word, release_fault_number, release_fault_word, lookup_fault_number, lookup_fault_word}
use Rattle.nbt_world.specs.World.{WorldValue}
use Rattle.nbt_world.specs.Step.{
  Step,
  ticks,
  advances,
  starts,
  starts_nothing,
  crashes,
  crashes_nothing,
  resumes,
  resumes_nothing,
  node_does,
  node_is_down,
  no_datagram,
  no_end,
  too_late,
  delivered,
  from_an_end,
  to_no_end,
  from_a_stranger,
  beside_no_end,
  beside_moves,
  beside_to_no_end,
  from_beside,
  outcome_of,
  outcome_of_taking,
  CallOutcomeValue,
  nothing,
  refusal,
  octets_to,
  TakenValue,
  is_down,
  is_lost,
  takes,
  NodeDoes,
  asks,
  ask_refused,
  gives_back,
  release_refused,
  resolves,
  resolve_refused,
  asks_status,
  status_refused,
  polls,
  polls_nothing,
}
use Rattle.nbt_world.specs.declared.event.Event.{Event}
use Rattle.nbt_world.specs.declared.event.Event.TheVariants.{Tick, Advance}
use Rattle.nbt_world.specs.declared.event.Outcome.{Outcome}
use Rattle.nbt_world.specs.declared.event.Outcome.TheVariants.{Done, Refused}
use Rattle.nbt_sim.specs.Script.{NamesRefusal, of_ask, of_release, of_resolve, of_status}

-- ---- the moment

ticked_to : {old new : WorldValue} {outcome : Outcome} {ms : ℕ} → Step old (Tick ms) outcome new → (outcome ≡ Done) × (new.now.clock ≡ min (old.now.clock + ms) (2 ^ 60))
ticked_to (ticks ms v adv) = (refl, adv.now)
ticked_to (node_does event number node new given own up does) = absurd (none-some number own)
ticked_to (node_is_down event number own down) = absurd (none-some number own)

drifts_done : {old new : WorldValue} {outcome : Outcome} {ms : ℕ} {readings : List ℕ} → Step old (Advance ms readings) outcome new → outcome ≡ Done
drifts_done (advances ms readings v adv) = refl
drifts_done (node_does event number node new given own up does) = absurd (none-some number own)
drifts_done (node_is_down event number own down) = absurd (none-some number own)

-- the clocks go on, each by its own number
pub drifts_to : (old new : WorldValue) (outcome : Outcome) (ms : ℕ) (readings entries : List ℕ) → Step old (Advance ms readings) outcome new → readings ≡ entries → Step old (Advance ms entries) Done new
drifts_to old new outcome ms readings entries s same =
    let t = subst (λ (x : Outcome). Step old (Advance ms readings) x new) (drifts_done s) s in
    subst (λ (x : List ℕ). Step old (Advance ms x) Done new) same t

-- the clock goes on to a moment
pub goes_to : (old new : WorldValue) (outcome : Outcome) (moment : ℕ) → Step old (Tick (moment - old.now.clock)) outcome new → old.now.clock ≤ moment → moment ≤ 2 ^ 60
    → Step old (Tick (moment - old.now.clock)) Done new × (new.now.clock ≡ moment)
goes_to old new outcome moment s later fits =
    let t = ticked_to s in
    (subst (λ (x : Outcome). Step old (Tick (moment - old.now.clock)) x new) t.0 s, t.1 ∙ omega arith)

-- ---- refusals

outcome_refused : (w : WorldValue) (given : CallOutcomeValue) (n : ℕ) → outcome_of w given ≡ Refused n → given ≡ refusal n
outcome_refused w nothing n e = absurd cc
outcome_refused w (refusal m) n e = let same : m ≡ n = cc in ap refusal same
outcome_refused w (octets_to to octets) n e = absurd cc

taking_never : (w : WorldValue) (taken : TakenValue) (n : ℕ) → outcome_of_taking w taken ≡ Refused n → ⊥
taking_never w is_down n e = absurd cc
taking_never w is_lost n e = absurd cc
taking_never w (takes None) n e = absurd cc
taking_never w (takes (Some reply)) n e = absurd cc

does_named : (old new : NodeValue) (now : ℕ) (event : Event) (given : CallOutcomeValue) (n : ℕ) → NodeDoes old now event new given → given ≡ refusal n → (word : List ℕ) × NamesRefusal event n word
does_named old _ now _ _ n (asks number name kind ttl new octets p q) e = absurd cc
does_named old _ now _ _ n (ask_refused number name kind ttl fault p) e = let same : ask_fault_number fault ≡ n = cc in (ask_fault_word fault, rw (← same) (of_ask number name kind ttl fault))
does_named old _ now _ _ n (gives_back number name new octets p q) e = absurd cc
does_named old _ now _ _ n (release_refused number name fault p) e = let same : release_fault_number fault ≡ n = cc in (release_fault_word fault, rw (← same) (of_release number name fault))
does_named old _ now _ _ n (resolves number name new octets p q) e = absurd cc
does_named old _ now _ _ n (resolve_refused number name fault p) e = let same : lookup_fault_number fault ≡ n = cc in (lookup_fault_word fault, rw (← same) (of_resolve number name fault))
does_named old _ now _ _ n (asks_status number to name new octets p q) e = absurd cc
does_named old _ now _ _ n (status_refused number to name fault p) e = let same : lookup_fault_number fault ≡ n = cc in (lookup_fault_word fault, rw (← same) (of_status number to name fault))
does_named old _ now _ _ n (polls number to new octets p) e = absurd cc
does_named old _ now _ _ n (polls_nothing number new octets p) e = absurd cc

pub refusal_named : (old new : WorldValue) (event : Event) (outcome : Outcome) (n : ℕ) → Step old event outcome new → outcome ≡ Refused n → (word : List ℕ) × NamesRefusal event n word
refusal_named old _ _ _ n (ticks ms v adv) e = absurd cc
refusal_named old _ _ _ n (advances ms readings v adv) e = absurd cc
refusal_named old _ _ _ n (starts number ends s) e = absurd cc
refusal_named old _ _ _ n (starts_nothing number s) e = absurd cc
refusal_named old _ _ _ n (crashes number ends s) e = absurd cc
refusal_named old _ _ _ n (crashes_nothing number s) e = absurd cc
refusal_named old _ _ _ n (resumes ends s) e = absurd cc
refusal_named old _ _ _ n (resumes_nothing s) e = absurd cc
refusal_named old _ _ _ n (node_does event number node new given p q d) e = does_named node new _ event given n d (outcome_refused old given n e)
refusal_named old _ _ _ n (node_is_down event number p q) e = absurd cc
refusal_named old _ _ _ n (no_datagram k p) e = absurd cc
refusal_named old _ _ _ n (no_end k d p q) e = absurd cc
refusal_named old _ _ _ n (too_late k d number p q r) e = absurd cc
refusal_named old _ _ _ n (delivered k d number taken ends p q r s) e = absurd (taking_never old taken n e)
refusal_named old _ _ _ n (from_an_end from number octets p) e = absurd cc
refusal_named old _ _ _ n (to_no_end from number octets p) e = absurd cc
refusal_named old _ _ _ n (from_a_stranger from addr number octets taken ends p q r) e = absurd (taking_never old taken n e)
refusal_named old _ _ _ n (beside_no_end from number octets p) e = absurd cc
refusal_named old _ _ _ n (beside_moves from number octets p) e = absurd cc
refusal_named old _ _ _ n (beside_to_no_end from number octets p) e = absurd cc
refusal_named old _ _ _ n (from_beside from addr number octets taken ends p q r t) e = absurd (taking_never old taken n e)
