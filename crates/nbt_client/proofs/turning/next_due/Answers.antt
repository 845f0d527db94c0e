use Rattle.std.proofs.Common.{refl}
use Rattle.nbt_client.proofs.Sending.{nothing_ends, back_ends}
use Rattle.nbt_client.proofs.turning.next_due.Goals as goal

pub returns-in-Ok-clause-none : goal.returns-in-Ok-clause-none
returns-in-Ok-clause-none g c = nothing_ends c.args.now c.args.node.now c.poll.new.self c.in-Ok.to c.poll.new.out.items c.in-Ok.ensures.ok

pub returns-in-Err-clause-none : goal.returns-in-Err-clause-none
returns-in-Err-clause-none g c = λ none. back_ends c.args.now c.args.node.now c.poll.new.self (c.in-Err.ensures.refused.0 refl) c.in-Err.ensures.err.0
