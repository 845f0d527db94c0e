use Rattle.std.proofs.Common.{[], ◌∷◌}
use Rattle.std.proofs.lemmas.Option.{none-some}
use Rattle.nbt_net.specs.Getting.{NewNetworkGets}
use Rattle.nbt_net.proofs.Lives.{AllLaws}
use Rattle.nbt_net.proofs.Readying.{gets, is_got}
use Rattle.nbt_net.proofs.Beginning.{gets_anew}
use Rattle.nbt_net.proofs.laws.a_network_gets_a_free_name.Goals as goal

all : (c : goal.After-facts_of_every_world) → AllLaws
all c = record {
  world = record {
    step = c.every_run_is_safe.ensures.step;
    takes = c.every_run_is_safe.ensures.takes;
    ids = c.ids_and_early_refreshes_keep_the_facts.ensures.ids;
    refresh = c.ids_and_early_refreshes_keep_the_facts.ensures.refresh;
    limits = c.limits_keep_the_facts.ensures.clients;
    rows = c.limits_keep_the_facts.ensures.rows;
  };
  fresh = c.every_run_is_safe.ensures.fresh;
  safe = c.facts_of_every_world.ensures.safe;
  timely = c.facts_of_every_world.ensures.timely;
}

pub returns-clause-anew : goal.returns-clause-anew
returns-clause-anew c = λ config addrs index at r. anew config addrs index at r
  where
    anew : NewNetworkGets
    anew config [] index at r limits are at_is numbers own = absurd (none-some at at_is)
    anew config (server ∷ others) index at r limits are at_is numbers own = gets_anew (all c) c.written_form_is_read.ensures.spells config server others index at r limits are at_is numbers own

pub returns-clause-gets : goal.returns-clause-gets
returns-clause-gets c = λ config addrs before wire server hosts index at node r h. gets (all c) c.written_form_is_read.ensures.spells r h

pub returns-clause-surely : goal.returns-clause-surely
returns-clause-surely c = λ config addrs before wire server hosts index at node r h. is_got (all c) c.written_form_is_read.ensures.spells r h
    (record { sending = c.one_answer.ensures.sending; handling = c.one_answer.ensures.handling; reply = c.one_reply.ensures; message = c.one_message_spelled.ensures })
