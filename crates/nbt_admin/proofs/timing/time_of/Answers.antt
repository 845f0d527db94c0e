use Rattle.std.proofs.Common.{inr}
use Rattle.nbt_text.specs.Times.{SpellsTime}
use Rattle.nbt_admin.proofs.timing.time_of.Goals as goal

pub returns-in-None : goal.returns-in-None
returns-in-None c = inr (
  (λ t spelled.
      let time : SpellsTime c.as_bytes.result.now t = rw c.as_bytes.ensures.value spelled in
      let one = (c.in-None.ensures t).1 time in
      absurd cc),
  c.of_argument.ensures,
)
