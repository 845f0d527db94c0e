use Rattle.std.proofs.Common.{length, sym, ◌∙◌}
use Rattle.std.proofs.lemmas.Bool.{eqb-true}
use Rattle.nbt_confirm.specs.Further.{name_most}
use Rattle.nbt_confirm.proofs.Listing.{full_list}
use Rattle.nbt_confirm.proofs.further.list_in.Goals as goal

pub returns-then-is_full : goal.returns-then-is_full
returns-then-is_full c =
    full_list c.args.now c.args.name.now c.args.holder c.loop-row.row-index c.args.rows.now c.loop-row.out.items c.loop-row.invariant.so_far
    (eqb-true (length c.loop-row.out.items) name_most (sym c.is_full.ensures.value ∙ c.if-is_full.true))
