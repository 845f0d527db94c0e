use Rattle.std.proofs.Common.{arith, zero-add}
use Rattle.nbt_name.proofs.Letters.{letters_from_each}
use Rattle.nbt_name.proofs.reader.spelled.Goals as goal

pub returns-clause-octets : goal.returns-clause-octets
returns-clause-octets c = letters_from_each _ c.args.letters.now (omega arith) (λ k lt. rw zero-add at (c.requires.letters k (omega arith))) (λ k lt. c.loop-k.invariant k (omega arith))
