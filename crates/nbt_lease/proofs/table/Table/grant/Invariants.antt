use Rattle.nbt_lease.proofs.table.Table.grant.Given as goal

abbrev pub ghosts-drop_some : goal.ghosts-drop_some
ghosts-drop_some a = record { name = a.blank.name; parts = a.blank.parts }
