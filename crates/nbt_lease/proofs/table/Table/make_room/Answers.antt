use Rattle.std.proofs.Common.{◌≤◌, length, sym, subst}
use Rattle.nbt_lease.proofs.Common.{IsDistinct, keys_of, same_name, leases_at, IsSound, Entries, rows_of}
use Rattle.nbt_lease.proofs.table.Table.make_room.Goals as goal

pub invariant_of-self : goal.invariant_of-self
invariant_of-self c =
    let t = c.self.inside in
    subst (λ (es : Entries). IsDistinct same_name (keys_of es) × IsSound t.config t.last (leases_at t.last (rows_of es)) × (length (rows_of es) ≤ t.config.rows)) (sym c.make_room.ensures) c.self.invariant
