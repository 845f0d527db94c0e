use Rattle.nbt_sim.proofs.Spelled.{no_moment, one_moment}
use Rattle.nbt_sim.proofs.words.MomentArgument.read.Goals as goal

pub returns-in_err-parse_number : goal.returns-in_err-parse_number
returns-in_err-parse_number c = λ n. no_moment c.args.word.now c.parse_number.result c.from_residual.result n c.parse_number.ensures c.in_err-parse_number.was c.from_residual.ensures

pub returns : goal.returns
returns c = λ n. one_moment c.args.word.now c.parse_number.result c.new.result c.in_ok-parse_number.field-0 n c.parse_number.ensures c.in_ok-parse_number.was c.new.ensures.found c.new.ensures.value
