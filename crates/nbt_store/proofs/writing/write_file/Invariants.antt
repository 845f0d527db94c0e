use Rattle.std.specs.String.{string_bytes}
use Rattle.std.specs.Prelude.{length, take}
use Rattle.nbt_store.specs.declared.form.Form.TheVariants.{Three}
use Rattle.nbt_store.specs.Changes.{begun_all}
use Rattle.nbt_store.specs.Lines.{HaveLines, IsClosed}
use Rattle.nbt_store.proofs.writing.write_file.Given as goal

abbrev pub invariant-loop-row : goal.invariant-loop-row
invariant-loop-row l = HaveLines (string_bytes l.out) Three (record { header = l.header; leases = length l.rows }) (begun_all l.header.last (take l.row-index l.rows)) l.sum × IsClosed (string_bytes l.out)
