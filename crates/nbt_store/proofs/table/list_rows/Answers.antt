use Rattle.std.proofs.Common.{◌≡◌, ◌++◌, ◌∷◌, List, map, sym, ap, ◌∙◌, append_assoc}
use Rattle.nbt_name.specs.Wire.{NameValue}
use Rattle.nbt_lease.specs.declared.lease.Lease.{Lease}
use Rattle.nbt_lease.specs.Lease.{Rows}
use Rattle.nbt_lease.specs.Inner.Index.{Entries, rows_of}
use Rattle.nbt_store.proofs.table.list_rows.Goals as goal

-- the leases of one name more
one_name_more : (before new whole : Rows) (rest others : Entries) (name : NameValue) (leases : List Lease) → rest ≡ (name, leases) ∷ others
    → new ≡ before ++ map (λ lease. (name, lease)) leases → before ++ rows_of rest ≡ whole → new ++ rows_of others ≡ whole
one_name_more before new whole rest others name leases parts is so_far = rw (is, append_assoc) (ap (λ (entries : Entries). before ++ rows_of entries) (sym parts) ∙ so_far)

pub names-preserved : goal.names-preserved
names-preserved c = one_name_more c.names.rows.items c.list_leases.new.out.items _ c.names.rest c.in-Some.others c.in-Some.name.now c.in-Some.group.now c.in-Some.ensures.parts
    (c.in_ok-list_leases.ensures ∙ ap (λ (leases : List Lease). c.names.rows.items ++ map (λ lease. (c.in-Some.name.now, lease)) leases) c.as_slice.ensures) c.names.invariant
