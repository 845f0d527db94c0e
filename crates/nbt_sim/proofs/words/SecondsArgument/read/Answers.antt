use Rattle.nbt_sim.proofs.Spelled.{no_seconds, one_number_of_seconds}
use Rattle.nbt_sim.proofs.words.SecondsArgument.read.Goals as goal

pub returns-in_err-parse_number : goal.returns-in_err-parse_number
returns-in_err-parse_number c = λ n. no_seconds c.args.word.now c.parse_number.result c.from_residual.result n c.parse_number.ensures c.in_err-parse_number.was c.from_residual.ensures

pub returns : goal.returns
returns c = λ n. one_number_of_seconds _ c.args.word.now c.parse_number.result c.in_ok-parse_number.field-0 c.try_from.result c.ok.result n c.parse_number.ensures c.in_ok-parse_number.was c.try_from.ensures c.ok.ensures.value
