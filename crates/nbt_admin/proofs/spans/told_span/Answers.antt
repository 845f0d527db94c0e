use Rattle.std.proofs.Common.{inr, rules}
use Rattle.nbt_admin.proofs.spans.told_span.Goals as goal

pub returns-then-not-are_of_one : goal.returns-then-not-are_of_one
returns-then-not-are_of_one c = inr (
  c.in-Ok.span,
  (
    c.in-Ok.ensures,
    (
      (λ all. let yes = c.are_of_one.ensures.1 all in let no = c.if-not-are_of_one.true in absurd cc),
      rw (← c.fault_of_run.ensures) c.of_argument-then-not-are_of_one.ensures,
    ),
  ),
)

pub returns : goal.returns
returns c = (c.in-Ok.ensures, c.are_of_one.ensures.0 (search rules))
