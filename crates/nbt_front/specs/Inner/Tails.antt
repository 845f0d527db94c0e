-- What stands behind the address of a network.
use Rattle.std.specs.Prelude.{ℕ, List, [], ◌∷◌, Option, Some, None}
use denote.Ref.{Bor}
use Rattle.nbt_front.specs.Networks.{slash}

-- nothing, or a slash and what stands behind it
abbrev pub tail_of : Option (Bor (List ℕ)) → List ℕ
tail_of None = []
tail_of (Some digits) = slash ∷ digits.now
