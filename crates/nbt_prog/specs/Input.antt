-- Standard input.
use Rattle.std.specs.Prelude.{◌≡◌, ℕ, List, Option, IfSome}

-- what was read to its end is all that it had, where that is known
abbrev pub IsInput : (known : Option (List ℕ)) → (input : List ℕ) → Type 0
IsInput known input = IfSome known (λ octets. input ≡ octets)
