use Rattle.nbt_store.specs.Outlasting.{no_header, by_header}
use Rattle.nbt_store.proofs.outlasting.may_have_lost.Goals as goal

pub returns-in-Some : goal.returns-in-Some
returns-in-Some c = by_header c.in-Some.header c.was_longer.result (rw c.in-Some.is at c.in_ok-header.ensures) c.was_longer.ensures

pub returns-in-None : goal.returns-in-None
returns-in-None c = no_header (rw c.in-None.is at c.in_ok-header.ensures)
