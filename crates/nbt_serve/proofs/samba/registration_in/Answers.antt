use Rattle.nbt_packet.specs.Message.{registration}
use Rattle.nbt_serve.proofs.SambaReading.{reads_none, finds_registration, finds_none}
use Rattle.nbt_serve.proofs.samba.registration_in.Goals as goal

pub returns-in_err-claim : goal.returns-in_err-claim
returns-in_err-claim c = λ r. (rw c.from_residual.ensures (λ e. absurd cc), λ s. absurd (reads_none c.read.result c.args.octets.now c.read.ensures c.in_err-claim.was (registration r) s))

pub returns-in-Registration : goal.returns-in-Registration
returns-in-Registration c = finds_registration c.read.result c.args.octets.now c.in_ok-claim.field-0 c.in-Registration.claim c.read.ensures c.in_ok-claim.was c.in-Registration.is

pub returns-in_default : goal.returns-in_default
returns-in_default c = finds_none c.read.result c.args.octets.now c.in_ok-claim.field-0 c.read.ensures c.in_ok-claim.was c.in_default.not-Registration
