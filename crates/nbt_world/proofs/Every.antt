-- Each step of the model keeps the facts of a world. So what is promised of a run that the code makes holds of each run.
use Rattle.std.proofs.Common.{List, [], ◌∷◌, ◌++◌, append_assoc, refl, sym, subst}
use Rattle.std.proofs.lemmas.List.{append-nil}
use Rattle.nbt_world.specs.declared.event.Event.{Event}
use Rattle.nbt_world.specs.declared.event.Outcome.{Outcome}
use Rattle.nbt_world.specs.World.{WorldValue}
use Rattle.nbt_world.specs.Step.{Step, ticks, advances, starts, starts_nothing, crashes, crashes_nothing, resumes, resumes_nothing, node_does, node_is_down, no_datagram, no_end, too_late, delivered, from_an_end, to_no_end, from_a_stranger, beside_no_end, beside_moves, beside_to_no_end, from_beside}
use Rattle.nbt_world.specs.Safety.{Run, ends, goes_on}
use Rattle.nbt_world.specs.Inner.Kept.{Invariant}
use Rattle.nbt_world.specs.Inner.Handing.{listed, strange, harmless}
use Rattle.nbt_world.proofs.Covering.{LaterLive}
use Rattle.nbt_world.proofs.Clock.{StaySound, clock_changes}
use Rattle.nbt_world.proofs.Naming.{Laws}
use Rattle.nbt_world.proofs.Granting.{LeaseLaws}
use Rattle.nbt_world.proofs.Deliveries.{taking_kept}
use Rattle.nbt_world.proofs.Starting.{starts_kept, crashes_kept, resumes_kept}
use Rattle.nbt_world.proofs.Worlds.{does_at, found_among}
use Rattle.nbt_world.proofs.Safe.{is_safe}
use Rattle.nbt_world.proofs.Going.{Along, along_first, along_more}

-- the laws of messages and of leases that all events rest on
pub record AllLaws : Type 0 where
  pub laws : Laws
  pub leases : LeaseLaws
  pub sound : StaySound
  pub live : LaterLive

-- ---- a step

pub step_kept : AllLaws → {old new : WorldValue} {event : Event} {outcome : Outcome} → Invariant old → Step old event outcome new → Invariant new
step_kept all kept (ticks ms new adv) = subst Invariant (sym adv.others) (clock_changes all.sound all.live all.leases.holds adv kept)
step_kept all kept (advances ms readings new adv) = subst Invariant (sym adv.others) (clock_changes all.sound all.live all.leases.holds adv kept)
step_kept all {old} kept (starts n es is) = starts_kept old n es kept is
step_kept all kept (starts_nothing n off) = kept
step_kept all {old} kept (crashes n es is) = crashes_kept old n es kept is
step_kept all kept (crashes_nothing n off) = kept
step_kept all {old} kept (resumes es is) = resumes_kept old es kept is
step_kept all kept (resumes_nothing off) = kept
step_kept all kept (node_does event n node new given own up does) = does_at all.laws kept n up does
step_kept all kept (node_is_down event n own down) = kept
step_kept all kept (no_datagram k none) = kept
step_kept all kept (no_end k d there none) = kept
step_kept all kept (too_late k d n there at late) = kept
step_kept all {old} kept (delivered k d n taken es there at in_time does) =
    taking_kept all.laws all.leases (record { kept = kept; at = at; origin = listed d (found_among old.sent k d there) refl refl refl in_time }) does
step_kept all kept (from_an_end from n octets is) = kept
step_kept all kept (to_no_end from n octets none) = kept
step_kept all kept (from_a_stranger from addr n octets taken es off at does) = taking_kept all.laws all.leases (record { kept = kept; at = at; origin = strange off }) does
step_kept all kept (beside_no_end from n octets off) = kept
step_kept all kept (beside_moves from n octets is) = kept
step_kept all kept (beside_to_no_end from n octets none) = kept
step_kept all kept (from_beside from addr n octets taken es is off at does) = taking_kept all.laws all.leases (record { kept = kept; at = at; origin = harmless off }) does

-- ---- a run

-- more events, from the world to which the first ones led
along_on : AllLaws → (before : List Event) (seen : List WorldValue) {events : List Event} {old w last : WorldValue} {worlds : List WorldValue} → Invariant w → Run events w worlds last → Along before old (seen ++ w ∷ []) w → Along (before ++ events) old (seen ++ worlds) last
along_on all before seen {old = old} kept (ends w) so_far = subst (λ (es : List Event). Along es old (seen ++ w ∷ []) w) (sym (append-nil before)) so_far
along_on all before seen {old = old} kept (goes_on w next last event outcome events worlds step run) so_far =
    subst (λ (es : List Event). Along es old (seen ++ w ∷ worlds) last) (append_assoc before (event ∷ []) events)
    (subst (λ (ws : List WorldValue). Along ((before ++ event ∷ []) ++ events) old ws last) (append_assoc seen (w ∷ []) worlds)
    (along_on all (before ++ event ∷ []) (seen ++ w ∷ []) next_kept run
    (along_more step (is_safe next next_kept) (λ on. is_safe next next_kept (next_kept.clocks.kept_timely on)) so_far)))
  where
    next_kept : Invariant next
    next_kept = step_kept all kept step

pub along_every : AllLaws → {events : List Event} {old last : WorldValue} {worlds : List WorldValue} → Invariant old → Run events old worlds last → Along events old worlds last
along_every all {old = old} kept run = along_on all [] [] kept run (along_first old kept.clocks (is_safe old kept) (λ on. is_safe old kept (kept.clocks.kept_timely on)))
