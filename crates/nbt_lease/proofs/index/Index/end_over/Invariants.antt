use Rattle.nbt_lease.proofs.index.Index.end_over.Given as goal

abbrev pub ghosts-any_over : goal.ghosts-any_over
ghosts-any_over a = record { name = a.blank.name; parts = a.blank.parts }
