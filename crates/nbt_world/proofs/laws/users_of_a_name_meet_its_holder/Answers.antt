use Rattle.nbt_world.proofs.Safe.{is_safe}
use Rattle.nbt_world.proofs.Using.{holds_served, served_as_group, call_let_in}
use Rattle.nbt_world.proofs.laws.users_of_a_name_meet_its_holder.Goals as goal

pub returns-clause-held : goal.returns-clause-held
returns-clause-held c = holds_served c.calls_go_to_held_names.ensures

pub returns-clause-lets_in : goal.returns-clause-lets_in
returns-clause-lets_in c = call_let_in

pub returns-clause-safe : goal.returns-clause-safe
returns-clause-safe c = served_as_group c.calls_go_to_held_names.ensures

pub returns-clause-timely : goal.returns-clause-timely
returns-clause-timely c = λ world kept on. served_as_group c.calls_go_to_held_names.ensures world (is_safe world kept on)

pub returns-clause-along : goal.returns-clause-along
returns-clause-along c = λ old new worlds runs k d lt on. served_as_group c.calls_go_to_held_names.ensures _ (runs.safe_timely k d lt on)

pub returns-clause-along_kept : goal.returns-clause-along_kept
returns-clause-along_kept c = λ old new worlds runs k d lt on. served_as_group c.calls_go_to_held_names.ensures _ (runs.safe k d lt on)
