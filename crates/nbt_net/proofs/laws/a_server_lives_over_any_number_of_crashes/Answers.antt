use Rattle.nbt_net.proofs.Again.{StartLaws, start_begins_a_run, first_start, next_start}
use Rattle.nbt_net.proofs.laws.a_server_lives_over_any_number_of_crashes.Goals as goal

all : (c : goal.After-a_shifted_server_does_the_same) → StartLaws
all c = record {
  written = c.what_is_written_is_kept.ensures;
  crash = c.a_crash_leaves_an_earlier_server.ensures;
  resumes = c.what_is_kept_resumes.ensures;
  one = c.a_file_has_one_reading.ensures;
  past = c.a_new_clock_begins_at_the_last_time.ensures.served;
  alike = record {
    start = c.a_shifted_server_does_the_same.ensures.start;
    tells = c.a_shifted_server_does_the_same.ensures.telling;
    does = c.a_shifted_server_does_the_same.ensures.doing;
  };
}

pub returns-clause-begins : goal.returns-clause-begins
returns-clause-begins c = start_begins_a_run c.what_is_written_is_kept.ensures

pub returns-clause-first : goal.returns-clause-first
returns-clause-first c = first_start c.what_is_written_is_kept.ensures

pub returns-clause-next : goal.returns-clause-next
returns-clause-next c = next_start (all c)
