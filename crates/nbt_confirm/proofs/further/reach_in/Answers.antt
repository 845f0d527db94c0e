use Rattle.std.proofs.Common.{set, sym, ap, ◌∙◌}
use Rattle.std.specs.List.{position}
use Rattle.nbt_confirm.specs.Further.{is_at, reached_row}
use Rattle.nbt_confirm.specs.declared.further.Further.{Further}
use Rattle.nbt_confirm.proofs.Firsts.{none_set, set_is}
use Rattle.nbt_confirm.proofs.further.reach_in.Goals as goal

pub returns-in-Some-clause-rows : goal.returns-in-Some-clause-rows
returns-in-Some-clause-rows c =
    let test = is_at c.args.name.now c.args.addr in
    ap (λ (row : Further). set c.args.rows.now.items c.in-Some.place row) c.reach_one.ensures
    ∙ set_is test reached_row c.args.rows.now.items c.in-Some.place c.index_mut.result.now (ap (position test) (sym c.as_slice.ensures.value) ∙ sym c.in-Some.ensures) c.index_mut.ensures.value

pub returns-in_default-clause-rows : goal.returns-in_default-clause-rows
returns-in_default-clause-rows c =
    let test = is_at c.args.name.now c.args.addr in
    sym (none_set test reached_row c.args.rows.now.items (ap (position test) (sym c.as_slice.ensures.value) ∙ sym c.in_default.ensures))
