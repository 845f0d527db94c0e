use Rattle.nbt_c.proofs.Common.{ℕ, Err, refl, ap, subst, ConfigValue, ServerStarts, starts, has_no_moment, above, none_of, answers, refused}
use Rattle.nbt_c.proofs.serving.nbt_server_start.Goals as goal

pub returns-in-Err : goal.returns-in-Err
returns-in-Err c =
    answers c.number.ensures (none_of c.args.server.now.server c.requires)
    (refused c.in-Err.fault (λ e. c.in-Err.ensures.life.0 (ap Err e)) (λ e. c.in-Err.ensures.longest.0 (ap Err e)) (λ e. c.in-Err.ensures.rows.0 (ap Err e)))

pub returns-in_default : goal.returns-in_default
returns-in_default c =
    let found = c.in-Ok.ensures.found.0 refl in
    answers refl (none_of c.args.server.now.server c.requires) (has_no_moment found.0 found.1 found.2 (above c.in_default.ensures.found))

pub returns : goal.returns
returns c =
    let found = c.in-Ok.ensures.found.0 refl in
    answers refl c.put.ensures
    (starts c.start.result found.0 found.1 found.2 (c.in-Some.ensures.found.0 refl)
    (subst (λ (w : ConfigValue × ℕ). ServerStarts w.0 w.1 c.start.result) (λ i. (c.in-Ok.ensures.value i, c.in-Some.ensures.value i)) c.start.ensures))
