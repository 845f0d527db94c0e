-- What a case wants.
use Rattle.std.specs.Prelude.{◌≡◌, ℕ, List, None, codes}
use Rattle.bstr.specs.Find.{first_of, matches}

-- a text that is wanted as it stands: nothing in it stands for anything
abbrev pub IsExact : List ℕ → Type 0
IsExact wanted = first_of (matches wanted (codes "...") 0) ≡ None
