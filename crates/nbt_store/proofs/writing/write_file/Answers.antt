use Rattle.std.proofs.Common.{◌∙◌, ◌∷◌, [], ◌++◌, length, take, sym, ap, arith}
use Rattle.std.specs.String.{string_bytes}
use Rattle.std.proofs.lemmas.List.{take_more}
use Rattle.nbt_name.specs.Wire.{NameValue}
use Rattle.nbt_lease.specs.declared.lease.Lease.{Lease}
use Rattle.nbt_store.proofs.Written.{lease_written}
use Rattle.nbt_store.proofs.writing.write_file.Goals as goal

pub loop-row-preserved : goal.loop-row-preserved
loop-row-preserved c =
    let w = c.in_ok-sum-2.ensures in
    lease_written (string_bytes c.loop-row.out) (string_bytes c.write_row.new.out) (record { header = c.args.header.now; leases = length c.args.rows.now }) c.args.header.now.last c.args.rows.now c.loop-row.row-index c.row-item.result c.loop-row.sum _ w.0 c.loop-row.invariant.0 c.loop-row.invariant.1 w.1 w.2 w.3
    (take_more c.args.rows.now c.loop-row.row-index _ (omega (arith, c.loop-row-test.true)) ∙ ap (λ (r : NameValue × Lease). take c.loop-row.row-index c.args.rows.now ++ r ∷ []) (sym c.row-item.is))
