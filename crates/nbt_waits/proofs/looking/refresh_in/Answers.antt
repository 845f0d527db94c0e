use Rattle.nbt_packet.specs.Message.{refresh}
use Rattle.nbt_waits.proofs.Reading.{no_claim, refresh_found, refresh_not}
use Rattle.nbt_waits.proofs.looking.refresh_in.Goals as goal

pub returns-in_err-claim : goal.returns-in_err-claim
returns-in_err-claim c = no_claim c.read.result c.args.octets.now c.read.ensures c.from_residual.result refresh c.from_residual.ensures c.in_err-claim.was

pub returns-in-Refresh : goal.returns-in-Refresh
returns-in-Refresh c = refresh_found c.read.result c.args.octets.now c.read.ensures c.in_ok-claim.field-0 c.in_ok-claim.was c.in-Refresh.claim c.in-Refresh.is

pub returns-in_default : goal.returns-in_default
returns-in_default c = refresh_not c.read.result c.args.octets.now c.read.ensures c.in_ok-claim.field-0 c.in_ok-claim.was c.in_default.not-Refresh
