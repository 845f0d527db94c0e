use Rattle.nbt_packet.specs.Message.{registration}
use Rattle.nbt_waits.proofs.Reading.{no_claim, registration_found, registration_not}
use Rattle.nbt_waits.proofs.looking.registration_in.Goals as goal

pub returns-in_err-claim : goal.returns-in_err-claim
returns-in_err-claim c = no_claim c.read.result c.args.octets.now c.read.ensures c.from_residual.result registration c.from_residual.ensures c.in_err-claim.was

pub returns-in-Registration : goal.returns-in-Registration
returns-in-Registration c = registration_found c.read.result c.args.octets.now c.read.ensures c.in_ok-claim.field-0 c.in_ok-claim.was c.in-Registration.claim c.in-Registration.is

pub returns-in_default : goal.returns-in_default
returns-in_default c = registration_not c.read.result c.args.octets.now c.read.ensures c.in_ok-claim.field-0 c.in_ok-claim.was c.in_default.not-Registration
