use Rattle.nbt_world.proofs.Apart.{fresh_has_facts}
use Rattle.nbt_world.proofs.Going.{runs_safely, runs_by_clocks}
use Rattle.nbt_world.proofs.Deliveries.{taking_kept}
use Rattle.nbt_world.proofs.Every.{AllLaws, step_kept, along_every}
use Rattle.nbt_world.proofs.laws.every_run_is_safe.Goals as goal

all : (c : goal.After-rest_outlasts_datagrams) → AllLaws
all c = record {
  laws = record { one_message = c.one_message_spelled.ensures; rests = c.rest_outlasts_datagrams.ensures.between };
  leases = record {
    elsewhere = c.one_name_changes.ensures.elsewhere;
    here = c.one_name_changes.ensures.here;
    others_granted = c.leases_of_others_stay.ensures.granted;
    others_released = c.leases_of_others_stay.ensures.released;
    stands = c.granted_lease_stands.ensures.lease;
    granted_sound = c.leases_stay_sound.ensures.granted;
    released_sound = c.leases_stay_sound.ensures.released;
    holds = c.hold_ends_first.ensures.between;
    beside = c.granted_lease_stands.ensures.beside;
  };
  sound = c.leases_stay_sound.ensures.later;
  live = c.later_leases_live_now.ensures;
}

pub returns-clause-fresh : goal.returns-clause-fresh
returns-clause-fresh c = λ config addrs world are fresh. fresh_has_facts are fresh

pub returns-clause-step : goal.returns-clause-step
returns-clause-step c = λ old new event outcome kept step. step_kept (all c) kept step

pub returns-clause-takes : goal.returns-clause-takes
returns-clause-takes c = λ world number from to octets taken ends kept at origin does. taking_kept (all c).laws (all c).leases (record { kept = kept; at = at; origin = origin }) does

pub returns-clause-run : goal.returns-clause-run
returns-clause-run c = λ events old new worlds kept run. runs_safely (along_every (all c) kept run)

pub returns-clause-by_clocks : goal.returns-clause-by_clocks
returns-clause-by_clocks c = λ events old new worlds kept run. runs_by_clocks (along_every (all c) kept run)

pub returns-clause-anew : goal.returns-clause-anew
returns-clause-anew c = λ config addrs events old new worlds are fresh run. runs_safely (along_every (all c) (fresh_has_facts are fresh) run)
