use Rattle.std.proofs.Common.{◌≡◌, ◌∙◌, ℕ, List, [], ◌∷◌, ap, rules, subst}
use Rattle.nbt_store.specs.Forms.{version}
use Rattle.nbt_store.specs.Lines.{IsHead, whole_lines, is_empty, other_version, no_head, bad_head}
use Rattle.nbt_store.proofs.WholeLines.{front_is}
use Rattle.nbt_store.proofs.reading.read_front.Goals as goal

pub returns-in_default-clause-refused : goal.returns-in_default-clause-refused
returns-in_default-clause-refused c = is_empty (search rules)

pub returns-in_default-of_line-clause-refused : goal.returns-in_default-of_line-clause-refused
returns-in_default-of_line-clause-refused c = other_version c.in-Some.first.now (whole_lines c.in-Some.behind.now) c.in-Some.ensures.line (λ form e. let there = (c.of_line.ensures form).1 e in search rules)

pub returns-in_default-next_line-clause-refused : goal.returns-in_default-next_line-clause-refused
returns-in_default-next_line-clause-refused c =
    let form = c.in-Some-of_line.form in
    let is : c.in-Some.first.now ≡ version form = (c.of_line.ensures form).0 c.in-Some-of_line.is in
    let none : whole_lines c.in-Some.behind.now ≡ [] = search rules in
    no_head form (c.in-Some.ensures.line ∙ ap (λ (l : List ℕ). l ∷ whole_lines c.in-Some.behind.now) is ∙ ap (λ (ls : List (List ℕ)). version form ∷ ls) none)

pub returns-in_default-2-clause-refused : goal.returns-in_default-2-clause-refused
returns-in_default-2-clause-refused c =
    let form = c.in-Some-of_line.form in
    let is : c.in-Some.first.now ≡ version form = (c.of_line.ensures form).0 c.in-Some-of_line.is in
    bad_head form c.in-Some-next_line.second.now (whole_lines c.in-Some-next_line.rest.now)
    (c.in-Some.ensures.line ∙ ap (λ (l : List ℕ). l ∷ whole_lines c.in-Some.behind.now) is ∙ ap (λ (ls : List (List ℕ)). version form ∷ ls) c.in-Some-next_line.ensures.line)
    (rw c.in_default-2.is at c.in_ok-head.ensures)

pub returns-clause-front : goal.returns-clause-front
returns-clause-front c =
    let form = c.in-Some-of_line.form in
    front_is c.args.octets.now c.in-Some.first.now c.in-Some.behind.now c.in-Some-next_line.second.now c.in-Some-next_line.rest.now form c.in-Some-2.head c.in-Some-2.sum c.in-Some.ensures.line ((c.of_line.ensures form).0 c.in-Some-of_line.is) c.in-Some-next_line.ensures.line
    (rw c.in-Some-2.is at c.in_ok-head.ensures)

pub returns-in_default-2-clause-none : goal.returns-in_default-2-clause-none
returns-in_default-2-clause-none c = λ h has.
    let lines = has.4.lines_are in
    let first = c.in-Some.ensures.line in
    let second = c.in-Some-next_line.ensures.line in
    let same : has.4.line ≡ c.in-Some-next_line.second.now = cc in
    let none : (head : _) (sum : ℕ) → ¬ IsHead c.in-Some-next_line.second.now head sum = rw c.in_default-2.is at c.in_ok-head.ensures in
    absurd (none has.1 has.2 (subst (λ (l : List ℕ). IsHead l has.1 has.2) same has.4.head_is))
