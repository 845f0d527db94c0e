-- What is known of the clocks along a wire.
use Rattle.std.proofs.Common.{List, [], ◌∷◌, ◌++◌, refl, subst, append_assoc}
use Rattle.std.specs.Prelude.{IsTrue, ◌↔◌}
use Rattle.nbt_name.specs.declared.addr.Addr.{Addr}
use Rattle.nbt_lease.specs.Config.{ConfigValue}
use Rattle.nbt_world.specs.Drift.{IsBounded, IsTimely, IsAllowed, IsAllowedTimely}
use Rattle.nbt_world.specs.World.{WorldValue, IsFresh}
use Rattle.nbt_world.specs.Safety.{KeepDriftBound, AreTimely}
use Rattle.nbt_world.specs.Inner.Kept.{AreRead}
use Rattle.nbt_world.proofs.Exact.{Goes, Traced, traced_more, traced_first, Told, told_more, told_first, told_fresh, drift_bound, timely_bound}
use Rattle.nbt_world.proofs.Going.{goes_on as time_goes_on, goes_with}
use Rattle.nbt_net.specs.Wire.{Happening, WireStep, time_passes, end_acts, WireRun, ends, goes_on, sent_by}

-- what is known after some of it
record Judged (old : WorldValue) (wires : List WorldValue) (last : WorldValue) : Type 0 where
  pub traced : Traced old wires last
  pub told : Told IsAllowed IsBounded (λ w. w.kept) old wires last
  pub told_timely : Told IsAllowedTimely IsTimely (λ w. w.timely) old wires last

steps : {old new : WorldValue} {happening : Happening} → AreRead old → WireStep old happening new → Goes old new
steps read (time_passes ms readings new adv) = time_goes_on adv read
steps {old} read (end_acts number at act there now_is comes) = goes_with old old.ends (old.sent ++ sent_by at old.now act.calls) (λ n. refl) read

more : {old wire new : WorldValue} (seen : List WorldValue) → Goes wire new → Judged old (seen ++ wire ∷ []) wire → Judged old ((seen ++ wire ∷ []) ++ new ∷ []) new
more {wire = wire} {new} seen goes is = record {
  traced = traced_more (seen ++ wire ∷ []) wire new goes is.traced;
  told = told_more IsAllowed IsBounded (λ w. w.kept) drift_bound (seen ++ wire ∷ []) wire new goes goes.kept is.traced is.told;
  told_timely = told_more IsAllowedTimely IsTimely (λ w. w.timely) timely_bound (seen ++ wire ∷ []) wire new goes goes.timely is.traced is.told_timely;
}

along : {old wire last : WorldValue} (seen : List WorldValue) {happenings : List Happening} {wires : List WorldValue} → WireRun happenings wire wires last → Judged old (seen ++ wire ∷ []) wire → Judged old (seen ++ wires) last
along seen (ends wire) is = is
along {old} seen (goes_on wire next last h hs wires step run) is =
    subst (λ (ws : List WorldValue). Judged old ws last) (append_assoc seen (wire ∷ []) wires) (along (seen ++ wire ∷ []) run (more seen (steps is.traced.read step) is))

first : (wire : WorldValue) → AreRead wire → Judged wire (wire ∷ []) wire
first wire read = record {
  traced = traced_first wire read;
  told = told_first IsAllowed IsBounded (λ w. w.kept) drift_bound wire read.allowed;
  told_timely = told_first IsAllowedTimely IsTimely (λ w. w.timely) timely_bound wire read.allowed_timely;
}

module _ {config : ConfigValue} {addrs : List Addr} {old last : WorldValue} {happenings : List Happening} {wires : List WorldValue} (fresh : IsFresh config addrs old) (read : AreRead old) (run : WireRun happenings old wires last) where
  judged : Judged old wires last
  judged = along [] run (first old read)

  pub kept_is_judged : IsTrue last.kept ↔ KeepDriftBound wires
  kept_is_judged = told_fresh IsAllowed IsBounded (λ w. w.kept) drift_bound fresh fresh.kept judged.traced judged.told

  pub timely_is_judged : IsTrue last.timely ↔ AreTimely wires
  timely_is_judged = told_fresh IsAllowedTimely IsTimely (λ w. w.timely) timely_bound fresh fresh.timely judged.traced judged.told_timely
