use Rattle.nbt_sim.proofs.Reading.{no_numbers, no_limits, world_read}
use Rattle.nbt_sim.proofs.words.NewWorldArguments.read_all.Goals as goal

pub returns-in_err-life : goal.returns-in_err-life
returns-in_err-life c = λ w. no_numbers _ c.read_all.result c.read_all.ensures c.from_residual.result w c.in_err-life.was c.from_residual.ensures

pub returns-in_err-config : goal.returns-in_err-config
returns-in_err-config c = λ w. no_limits _ c.read_all.result c.read_all.ensures _ c.limits.result c.from_residual-in_err-config.result w c.in_ok-life.was c.limits.ensures c.in_err-config.was c.from_residual-in_err-config.ensures

pub returns : goal.returns
returns c = λ w. world_read _ c.read_all.result c.read_all.ensures _ c.limits.result c.in_ok-config.config w c.in_ok-life.was c.limits.ensures c.in_ok-config.was
