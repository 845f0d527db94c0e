use Rattle.nbt_serve.proofs.waiting.Waiting.goes_first.Goals as goal

pub returns-then-not-synced : goal.returns-then-not-synced
returns-then-not-synced c = ((λ is. (c.if-not-synced.true, c.is_free.ensures.0 is)), (λ goes. c.is_free.ensures.1 goes.1))
