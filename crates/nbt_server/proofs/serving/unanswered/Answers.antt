use Rattle.std.proofs.Common.{refl}
use Rattle.nbt_server.proofs.Common.{for_nodes, request}
use Rattle.nbt_server.proofs.Rules.{is_for_nodes}
use Rattle.nbt_server.proofs.serving.unanswered.Goals as goal

pub returns-in-Registration : goal.returns-in-Registration
returns-in-Registration c = rw (c.in-Registration.is, c.to_name.ensures) (λ octets spelled. request _ _ spelled (λ nodes. nodes) refl)

pub returns-in-Overwrite : goal.returns-in-Overwrite
returns-in-Overwrite c = rw (c.in-Overwrite.is, c.to_name-in-Overwrite.ensures) (λ octets spelled. request _ _ spelled (λ nodes. nodes) refl)

pub returns-in-Refresh : goal.returns-in-Refresh
returns-in-Refresh c = rw (c.in-Refresh.is, c.to_name-in-Refresh.ensures) (λ octets spelled. request _ _ spelled (λ nodes. nodes) refl)

pub returns-in-Release : goal.returns-in-Release
returns-in-Release c = rw (c.in-Release.is, c.to_name-in-Release.ensures) (λ octets spelled. request _ _ spelled (λ nodes. nodes) refl)

pub returns-in-Query : goal.returns-in-Query
returns-in-Query c = rw (c.in-Query.is, c.to_name-in-Query.ensures) (λ octets spelled. request _ _ spelled (λ nodes. nodes) refl)

pub returns-in_default : goal.returns-in_default
returns-in_default c = λ octets spelled. for_nodes _ spelled (is_for_nodes _ c.in_default.not-Registration c.in_default.not-Overwrite c.in_default.not-Refresh c.in_default.not-Release c.in_default.not-Query)
