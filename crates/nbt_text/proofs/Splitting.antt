-- What is left to read after a piece.
use Rattle.std.proofs.Common.{◌≡◌, ℕ, ◌+◌, ◌≤◌, List, ◌∷◌, ◌++◌, length, Option, Some, None, ap, arith}
use Rattle.std.specs.Prelude.{MatchOption}
use Rattle.std.proofs.lemmas.List.{length-append}
use denote.Ref.{Bor}

-- octets, and one for the mark in front of them
abbrev pub left : Option (Bor (List ℕ)) → ℕ
left None = 0
left (Some octets) = length octets.now + 1

pub left_behind : (mark : ℕ) (octets first : List ℕ) (rest : Option (Bor (List ℕ))) → MatchOption rest (octets ≡ first) (λ x. octets ≡ first ++ (mark ∷ x.now)) → left rest ≤ length octets
left_behind mark octets first None e = omega arith
left_behind mark octets first (Some x) e = omega (arith, ap length e, length-append first (mark ∷ x.now))
