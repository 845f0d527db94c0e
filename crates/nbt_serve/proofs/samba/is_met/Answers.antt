use Rattle.std.proofs.Common.{refl}
use Rattle.nbt_serve.proofs.SambaReading.{met_by_one}
use Rattle.nbt_serve.proofs.samba.is_met.Goals as goal

pub returns-in_default : goal.returns-in_default
returns-in_default c = (λ e. absurd cc, λ met. let e = (c.registration_in.ensures met.0).1 met.1 in let none = c.in_default.is in absurd cc)

pub returns-in-MultiHomed : goal.returns-in-MultiHomed
returns-in-MultiHomed c = (λ e. (c.in-Some.claim, (c.registration_in.ensures c.in-Some.claim).0 c.in-Some.is, rw c.in-MultiHomed.is tt), λ met. refl)

pub returns-in-Overwrite : goal.returns-in-Overwrite
returns-in-Overwrite c = met_by_one c.registration_in.result c.args.octets.now c.in-Some.claim c.in-Overwrite.group c.args.asked.now c.is_same.result c.registration_in.ensures c.in-Some.is c.in-Overwrite.is c.is_same.ensures
