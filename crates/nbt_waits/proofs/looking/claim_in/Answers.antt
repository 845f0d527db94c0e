use Rattle.nbt_confirm.proofs.Claimed.{claims_none, claims_nothing, claims_this, is_refresh, is_registration}
use Rattle.nbt_waits.proofs.looking.claim_in.Goals as goal

pub returns-in_err-claim : goal.returns-in_err-claim
returns-in_err-claim c = λ r. (rw c.from_residual.ensures (λ e. absurd cc), λ claims. absurd (claims_none c.read.result c.args.octets.now c.read.ensures c.in_err-claim.was r claims))

pub returns-in_default : goal.returns-in_default
returns-in_default c = λ r. (λ e. absurd cc, λ claims. absurd (claims_nothing c.read.result c.args.octets.now c.in_ok-claim.field-0 c.read.ensures c.in_ok-claim.was c.in_default.not-Registration c.in_default.not-Refresh r claims))

pub returns-in-Registration : goal.returns-in-Registration
returns-in-Registration c = claims_this c.read.result c.args.octets.now c.in_ok-claim.field-0 c.read.ensures c.in_ok-claim.was c.in-Registration.claim (is_registration c.in-Registration.is)

pub returns-in-Refresh : goal.returns-in-Refresh
returns-in-Refresh c = claims_this c.read.result c.args.octets.now c.in_ok-claim.field-0 c.read.ensures c.in_ok-claim.was c.in-Refresh.claim (is_refresh c.in-Refresh.is)
