use Rattle.nbt_lease.proofs.table.Table.sweep.Given as goal

abbrev pub ghosts-sweep_uncounted : goal.ghosts-sweep_uncounted
ghosts-sweep_uncounted a = record { name = a.blank.name; parts = a.blank.parts }
