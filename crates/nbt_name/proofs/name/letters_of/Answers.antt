use Rattle.std.proofs.Common.{arith, ◌∙◌}
use Rattle.nbt_name.proofs.Letters.{halves_put, length-with_halves, letters_spelled}
use Rattle.nbt_name.proofs.name.letters_of.Goals as goal

pub loop-k-preserved : goal.loop-k-preserved
loop-k-preserved c = (
  length-with_halves c.args.octets.now c.loop-k.letters c.loop-k.k ∙ c.loop-k.invariant.0,
  halves_put c.args.octets.now c.loop-k.letters c.loop-k.k (omega (arith, c.loop-k.invariant.0)) c.loop-k.invariant.1,
)

pub returns : goal.returns
returns c = letters_spelled c.args.octets.now c.loop-k.letters (omega (arith, c.loop-k.invariant.0)) (λ k less. c.loop-k.invariant.1 k (omega (arith, less)))
