use Rattle.nbt_lease.proofs.index.Index.has_at_least.Given as goal

abbrev pub ghosts-any_over : goal.ghosts-any_over
ghosts-any_over a = record { name = a.blank.name; parts = a.blank.parts }
