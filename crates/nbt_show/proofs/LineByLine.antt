-- Verdicts line by line: the lines that are left, and the verdicts so far.
use Rattle.std.proofs.Common.{◌≡◌, ℕ, ◌+◌, ◌==◌, List, [], ◌∷◌, ◌++◌, get_or, Bool, false, Option, Some, None, ◌∙◌, ap, refl, arith, subst, append_assoc}
use Rattle.std.specs.Prelude.{MatchOption}
use Rattle.std.specs.List.{All}
use Rattle.std.proofs.lemmas.List.Splits.{slice_split_at, slice_split_none}
use Rattle.std.proofs.lemmas.Bool.{ne_eqb}
use Rattle.std.proofs.lemmas.List.{get_or_default, append-nil}
use denote.Ref.{Bor}
use Rattle.nbt_text.specs.Lines.{HasNo, lines}
use Rattle.nbt_show.specs.Verdicts.{PrintsVerdict, PrintsVerdicts, one_line, no_lines, passed_in, failed_in}

-- ---- the lines that are left

abbrev pub lines_left : Option (Bor (List ℕ)) → List (List ℕ)
lines_left None = []
lines_left (Some octets) = lines octets.now

no_feed : (first : List ℕ) → HasNo 10 first → All (λ octet. (octet == 10) ≡ false) first
no_feed first none k d below = ne_eqb (get_or first k d) 10 (rw (get_or_default first k d 0 below) (none k below))

pub lines_first : (octets first : List ℕ) (others : Option (Bor (List ℕ))) → MatchOption others (octets ≡ first) (λ x. octets ≡ first ++ (10 ∷ x.now)) → HasNo 10 first
    → lines octets ≡ first ∷ lines_left others
lines_first octets first None e none = rw e (slice_split_none (λ octet. octet == 10) first (no_feed first none))
lines_first octets first (Some x) e none = rw e (slice_split_at (λ octet. octet == 10) first 10 x.now (no_feed first none) refl)

-- ---- the verdicts so far

-- verdicts on the lines that are left complete those on all lines
abbrev pub Continues : (number : ℕ) (left all : List (List ℕ)) (text : List ℕ) (passed failed : ℕ) → Type 0
Continues number left all text passed failed = (more : List ℕ) (p f : ℕ) → PrintsVerdicts (number + 1) left more p f
    → PrintsVerdicts 1 all (text ++ more) (passed + p) (failed + f)

pub one_more : (number : ℕ) (line : List ℕ) (before : Option (Bor (List ℕ))) (now : Bor (List ℕ)) (others : Option (Bor (List ℕ))) (all : List (List ℕ)) (text told : List ℕ) (verdict : Option Bool) (passed failed : ℕ)
    → before ≡ Some now → MatchOption others (now.now ≡ line) (λ x. now.now ≡ line ++ (10 ∷ x.now)) → HasNo 10 line
    → Continues number (lines_left before) all text passed failed → PrintsVerdict (number + 1) line verdict told
    → (q g : ℕ) → q ≡ passed + passed_in verdict → g ≡ failed + failed_in verdict → Continues (number + 1) (lines_left others) all (text ++ told) q g
one_more number line before now others all text told verdict passed failed there cut none so_far this q g passes fails more p f rest =
    let first : lines_left before ≡ line ∷ lines_left others = ap lines_left there ∙ lines_first now.now line others cut none in
    let next = so_far (told ++ more) (passed_in verdict + p) (failed_in verdict + f) (rw first (one_line (number + 1) line (lines_left others) verdict told more p f this rest)) in
    let texts : (text ++ told) ++ more ≡ text ++ (told ++ more) = append_assoc text told more in
    let all_passed : q + p ≡ passed + (passed_in verdict + p) = omega (arith, passes) in
    let all_failed : g + f ≡ failed + (failed_in verdict + f) = omega (arith, fails) in
    rw (texts, all_passed, all_failed) next

-- at the end
pub all_told : (number : ℕ) (left all : List (List ℕ)) (text : List ℕ) (passed failed : ℕ) → left ≡ [] → Continues number left all text passed failed → PrintsVerdicts 1 all text passed failed
all_told number left all text passed failed ended so_far =
    let next : PrintsVerdicts 1 all (text ++ []) (passed + 0) (failed + 0) = so_far [] 0 0 (rw ended (no_lines (number + 1))) in
    let texts : text ++ [] ≡ text = append-nil text in
    let passes : passed + 0 ≡ passed = omega arith in
    let fails : failed + 0 ≡ failed = omega arith in
    let one = subst (λ (x : List ℕ). PrintsVerdicts 1 all x (passed + 0) (failed + 0)) texts next in
    let two = subst (λ (n : ℕ). PrintsVerdicts 1 all text n (failed + 0)) passes one in
    subst (λ (n : ℕ). PrintsVerdicts 1 all text passed n) fails two
