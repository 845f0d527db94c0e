use Rattle.nbt_net.proofs.Judging.{kept_is_judged, timely_is_judged}
use Rattle.nbt_net.proofs.Lives.{AllLaws, network_is_a_run, no_two_hold, no_two_hold_while_kept}
use Rattle.nbt_net.proofs.laws.lives_are_safe.Goals as goal

all : (c : goal.After-facts_of_every_world) → AllLaws
all c = record {
  world = record {
    step = c.every_run_is_safe.ensures.step;
    takes = c.every_run_is_safe.ensures.takes;
    ids = c.ids_and_early_refreshes_keep_the_facts.ensures.ids;
    refresh = c.ids_and_early_refreshes_keep_the_facts.ensures.refresh;
    limits = c.limits_keep_the_facts.ensures.clients;
    rows = c.limits_keep_the_facts.ensures.rows;
  };
  fresh = c.every_run_is_safe.ensures.fresh;
  safe = c.facts_of_every_world.ensures.safe;
  timely = c.facts_of_every_world.ensures.timely;
}

pub returns-clause-run : goal.returns-clause-run
returns-clause-run c = λ config addrs happenings now server hosts are net. network_is_a_run (all c) are net

pub returns-clause-timely : goal.returns-clause-timely
returns-clause-timely c = λ config addrs happenings now server hosts are net. no_two_hold (all c) are net

pub returns-clause-kept : goal.returns-clause-kept
returns-clause-kept c = λ config addrs happenings now server hosts are net. no_two_hold_while_kept (all c) are net

pub returns-clause-told : goal.returns-clause-told
returns-clause-told c = λ config addrs happenings now server hosts are net.
    let read = (c.every_run_is_safe.ensures.fresh config addrs net.first are net.fresh).clocks in (timely_is_judged net.fresh read net.goes, kept_is_judged net.fresh read net.goes)
