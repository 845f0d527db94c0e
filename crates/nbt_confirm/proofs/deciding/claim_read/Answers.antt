use Rattle.nbt_confirm.proofs.Claimed.{claimed, claims_none, claims_nothing, claims_this, has_header, is_refresh, is_registration}
use Rattle.nbt_confirm.proofs.deciding.claim_read.Goals as goal

pub returns-in_err-claim-clause-claims : goal.returns-in_err-claim-clause-claims
returns-in_err-claim-clause-claims c = λ r. (rw c.from_residual.ensures (λ e. absurd cc), λ claims. absurd (claims_none c.read.result c.args.octets.now c.read.ensures c.in_err-claim.was r claims))

pub returns-in_default : goal.returns-in_default
returns-in_default c = record {
  claims = λ r. (λ e. absurd cc, λ claims. absurd (claims_nothing c.read.result c.args.octets.now c.in_ok-claim.field-0 c.read.ensures c.in_ok-claim.was c.in_default.not-Registration c.in_default.not-Refresh r claims));
  room = tt;
}

pub returns-in-Registration-clause-claims : goal.returns-in-Registration-clause-claims
returns-in-Registration-clause-claims c = claims_this c.read.result c.args.octets.now c.in_ok-claim.field-0 c.read.ensures c.in_ok-claim.was c.in-Registration.claim (is_registration c.in-Registration.is)

pub returns-in-Registration-clause-room : goal.returns-in-Registration-clause-room
returns-in-Registration-clause-room c =
    has_header c.args.octets.now c.in-Registration.claim (claimed c.read.result c.args.octets.now c.in_ok-claim.field-0 c.read.ensures c.in_ok-claim.was c.in-Registration.claim (is_registration c.in-Registration.is))

pub returns-in-Refresh-clause-claims : goal.returns-in-Refresh-clause-claims
returns-in-Refresh-clause-claims c = claims_this c.read.result c.args.octets.now c.in_ok-claim.field-0 c.read.ensures c.in_ok-claim.was c.in-Refresh.claim (is_refresh c.in-Refresh.is)

pub returns-in-Refresh-clause-room : goal.returns-in-Refresh-clause-room
returns-in-Refresh-clause-room c =
    has_header c.args.octets.now c.in-Refresh.claim (claimed c.read.result c.args.octets.now c.in_ok-claim.field-0 c.read.ensures c.in_ok-claim.was c.in-Refresh.claim (is_refresh c.in-Refresh.is))
