use Rattle.nbt_server.specs.Serving.{by_registration, by_refresh}
use Rattle.nbt_front.specs.Deciding.{desk_at}
use Rattle.nbt_front.proofs.Rulings.{if_some, if_none, others_pass}
use Rattle.nbt_front.proofs.deciding.Front.decide_message.Goals as goal

pub returns-in-Registration-clause-decided : goal.returns-in-Registration-clause-decided
returns-in-Registration-clause-decided c = rw c.in-Registration.is (if_some c.claim.result (λ d h. h _ (by_registration c.in-Registration.claim)) c.claim.ensures.decided)

pub returns-in-Registration-clause-passed : goal.returns-in-Registration-clause-passed
returns-in-Registration-clause-passed c = rw c.in-Registration.is (if_none c.claim.result (λ h. h _ (by_registration c.in-Registration.claim)) c.claim.ensures.passed)

pub returns-in-Refresh-clause-decided : goal.returns-in-Refresh-clause-decided
returns-in-Refresh-clause-decided c = rw c.in-Refresh.is (if_some c.claim-in-Refresh.result (λ d h. h _ (by_refresh c.in-Refresh.claim)) c.claim-in-Refresh.ensures.decided)

pub returns-in-Refresh-clause-passed : goal.returns-in-Refresh-clause-passed
returns-in-Refresh-clause-passed c = rw c.in-Refresh.is (if_none c.claim-in-Refresh.result (λ h. h _ (by_refresh c.in-Refresh.claim)) c.claim-in-Refresh.ensures.passed)

pub returns-in-Overwrite-clause-decided : goal.returns-in-Overwrite-clause-decided
returns-in-Overwrite-clause-decided c = rw c.in-Overwrite.is c.overwrite.ensures.decided

pub returns-in-Overwrite-clause-passed : goal.returns-in-Overwrite-clause-passed
returns-in-Overwrite-clause-passed c = rw c.in-Overwrite.is c.overwrite.ensures.passed

pub returns-in-Release-clause-decided : goal.returns-in-Release-clause-decided
returns-in-Release-clause-decided c = rw c.in-Release.is (rw c.to_name.ensures at c.release.ensures.decided)

pub returns-in-Release-clause-passed : goal.returns-in-Release-clause-passed
returns-in-Release-clause-passed c = rw c.in-Release.is (rw c.to_name.ensures at c.release.ensures.passed)

pub returns-in-Query-clause-decided : goal.returns-in-Query-clause-decided
returns-in-Query-clause-decided c = rw c.in-Query.is (rw c.to_name-in-Query.ensures at (c.find.ensures.decided c.args.ip))

pub returns-in-Query-clause-passed : goal.returns-in-Query-clause-passed
returns-in-Query-clause-passed c = rw c.in-Query.is (rw c.to_name-in-Query.ensures at (c.find.ensures.passed c.args.ip))

pub returns-in_default-clause-passed : goal.returns-in_default-clause-passed
returns-in_default-clause-passed c = others_pass (desk_at c.args.self.now c.args.standing.now) c.args.standing.now.at c.args.ip _ c.in_default.not-Registration c.in_default.not-Overwrite c.in_default.not-Refresh c.in_default.not-Release c.in_default.not-Query
