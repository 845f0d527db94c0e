use Rattle.nbt_c.proofs.Common.{Err, refl, ap, ◌∙◌, started_from, starts, has_no_moment, above, none_of, answers, refused}
use Rattle.nbt_c.specs.Sizes.{node_slots}
use Rattle.nbt_c.proofs.node.nbt_node_start_from.Goals as goal

pub returns-in-Err : goal.returns-in-Err
returns-in-Err c =
    answers c.number.ensures (none_of c.args.node.now.node c.requires)
    (refused c.in-Err.fault (λ e. c.in-Err.ensures.life.0 (ap Err e)) (λ e. c.in-Err.ensures.longest.0 (ap Err e)) (λ e. c.in-Err.ensures.rows.0 (ap Err e)))

pub returns-in_default : goal.returns-in_default
returns-in_default c =
    let found = c.in-Ok.ensures.found.0 refl in
    answers refl (none_of c.args.node.now.node c.requires) (has_no_moment found.0 found.1 found.2 (above c.in_default.ensures.found))

pub returns : goal.returns
returns c =
    let found = c.in-Ok.ensures.found.0 refl in
    answers refl c.put.ensures
    (starts c.start_from.result found.0 found.1 found.2 (c.in-Some.ensures.found.0 refl)
    (c.start_from.ensures ∙ (λ i. started_from node_slots (c.addr.ensures i) (c.addr-2.ensures i) (c.in-Ok.ensures.value i) (c.in-Some.ensures.value i) c.args.first_id)))
