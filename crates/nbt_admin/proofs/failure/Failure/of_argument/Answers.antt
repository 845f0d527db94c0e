use Rattle.std.proofs.Common.{refl, inr}
use Rattle.nbt_admin.proofs.failure.Failure.of_argument.Goals as goal

pub returns-in-Ok : goal.returns-in-Ok
returns-in-Ok c = inr (record { bad = record { text = c.in-Ok.owned; fault = c.args.fault }; failure_is = refl; text_is = c.in-Ok.ensures.ok; fault_is = refl })
