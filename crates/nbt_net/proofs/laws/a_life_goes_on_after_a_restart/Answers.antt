use Rattle.nbt_net.proofs.Restarts.{ServerAlike, lives_later, restart_goes_on}
use Rattle.nbt_net.proofs.laws.a_life_goes_on_after_a_restart.Goals as goal

alike : (c : goal.After-a_start_resumes_an_earlier_server) → ServerAlike
alike c = record {
  start = c.a_shifted_server_does_the_same.ensures.start;
  tells = c.a_shifted_server_does_the_same.ensures.telling;
  does = c.a_shifted_server_does_the_same.ensures.doing;
}

pub returns-clause-later : goal.returns-clause-later
returns-clause-later c = lives_later (alike c)

pub returns-clause-restart : goal.returns-clause-restart
returns-clause-restart c = restart_goes_on (alike c) c.a_start_resumes_an_earlier_server.ensures.resumes
