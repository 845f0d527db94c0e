use Rattle.nbt_name.proofs.lent.find_plain.Given as goal

abbrev pub ghosts-find_uncounted : goal.ghosts-find_uncounted
ghosts-find_uncounted a = record { name = a.blank.name; parts = a.blank.parts }
