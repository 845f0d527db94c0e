use Rattle.std.proofs.Common.{◌≡◌, ◌∙◌, ℕ, List, [], ◌∷◌, ◌++◌, Option, Some, None, ap, rules}
use Rattle.std.specs.Prelude.{MatchOption}
use denote.Ref.{Bor}
use Rattle.nbt_text.specs.Lines.{HasNo, line_feed}
use Rattle.nbt_store.specs.Lines.{whole_lines}
use Rattle.nbt_store.proofs.WholeLines.{first_line, torn_line}
use Rattle.nbt_store.proofs.reading.next_line.Goals as goal

none_left : (octets line : List ℕ) (rest : Option (Bor (List ℕ))) → rest ≡ None → MatchOption rest (octets ≡ line) (λ r. octets ≡ line ++ line_feed ∷ r.now) → HasNo line_feed line → whole_lines octets ≡ []
none_left octets line None e is h = ap whole_lines is ∙ torn_line line h
none_left octets line (Some r) e is h = absurd cc

one_read : (octets line : List ℕ) (rest : Option (Bor (List ℕ))) (r : Bor (List ℕ)) → rest ≡ Some r → MatchOption rest (octets ≡ line) (λ r. octets ≡ line ++ line_feed ∷ r.now) → HasNo line_feed line → whole_lines octets ≡ line ∷ whole_lines r.now
one_read octets line None r e is h = absurd cc
one_read octets line (Some x) r e is h = let same : x ≡ r = cc in ap whole_lines is ∙ first_line line x.now h ∙ ap (λ (y : Bor (List ℕ)). line ∷ whole_lines y.now) same

pub returns-in-Some-clause-line : goal.returns-in-Some-clause-line
returns-in-Some-clause-line c = one_read c.args.octets.now c.split_at_first.result.0.now c.split_at_first.result.1 c.in-Some.rest (search rules) c.split_at_first.ensures.whole c.split_at_first.ensures.first

pub returns-in-None-clause-line : goal.returns-in-None-clause-line
returns-in-None-clause-line c = none_left c.args.octets.now c.split_at_first.result.0.now c.split_at_first.result.1 (search rules) c.split_at_first.ensures.whole c.split_at_first.ensures.first
