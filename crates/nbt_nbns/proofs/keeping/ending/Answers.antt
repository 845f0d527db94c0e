use Rattle.std.proofs.Common.{refl}
use Rattle.std.proofs.lemmas.Bool.{false≢true}
use Rattle.nbt_nbns.proofs.keeping.ending.Goals as goal

pub returns-then-not-is_over : goal.returns-then-not-is_over
returns-then-not-is_over g c = λ over. absurd (false≢true (c.if-not-is_over.ensures.1 over))

pub returns-then-is_idle : goal.returns-then-is_idle
returns-then-is_idle g c = (c.if-not-is_over.ensures.0 refl, c.if-is_idle.ensures.0 refl)

pub returns-else-is_idle : goal.returns-else-is_idle
returns-else-is_idle g c = λ over none. false≢true (c.if-is_idle.ensures.1 none)
