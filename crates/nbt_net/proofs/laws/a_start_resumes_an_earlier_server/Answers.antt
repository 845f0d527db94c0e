use Rattle.std.proofs.Common.{ap, option_map}
use Rattle.nbt_server.specs.Shifted.{shifted_server}
use Rattle.nbt_world.specs.Step.{server_resumes}
use Rattle.nbt_net.proofs.Rows.{resumes_as_was}
use Rattle.nbt_net.proofs.Started.{started}
use Rattle.nbt_net.specs.Servers.{with_rows}
use Rattle.nbt_net.proofs.laws.a_start_resumes_an_earlier_server.Goals as goal

pub returns-clause-resumes : goal.returns-clause-resumes
returns-clause-resumes c =
    started c.a_crash_leaves_an_earlier_server.ensures c.what_is_kept_resumes.ensures c.a_file_has_one_reading.ensures c.a_new_clock_begins_at_the_last_time.ensures.served c.a_shifted_server_does_the_same.ensures.telling

pub returns-clause-event : goal.returns-clause-event
returns-clause-event c shift rows was server now ends resumes down crashed =
    server_resumes (shifted_server shift was) (with_rows was.table.config.rows server) (ap (option_map (shifted_server shift)) down) (ap (option_map (shifted_server shift)) crashed) (resumes_as_was (shifted_server shift was) server rows now resumes)
