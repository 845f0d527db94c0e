use Rattle.std.proofs.Common.{inr}
use Rattle.nbt_admin.proofs.naming.expect_no_address.Goals as goal

pub returns-in-Some : goal.returns-in-Some
returns-in-Some c = inr ((λ none. none c.in-Some.field-0 ((c.in_ok-read_address.ensures c.in-Some.field-0).0 c.in-Some.is)), c.of_argument.ensures)
