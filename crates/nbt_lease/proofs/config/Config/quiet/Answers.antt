use Rattle.std.proofs.Common.{◌+◌, ◌*◌, ◌/◌, ap}
use Rattle.nbt_lease.proofs.Common.{ConfigValue}
use Rattle.nbt_lease.specs.Drift.{quiet}
use Rattle.nbt_lease.proofs.config.Config.quiet.Goals as goal

pub returns-clause-value : goal.returns-clause-value
unfolding quiet
returns-clause-value c = ap (λ (config : ConfigValue). 2 * config.life + 2 * config.life / 1000 + 2) c.self.view_is
