use Rattle.std.proofs.Common.{rules}
use Rattle.nbt_sim.proofs.Spelled.{end_server, end_node}
use Rattle.nbt_sim.proofs.words.end_of.Goals as goal

pub returns-then-eq : goal.returns-then-eq
returns-then-eq c = λ n. end_server c.args.word.now n (search rules)

pub returns : goal.returns
returns c = λ n. end_node c.args.word.now c.node_of.result n (λ e. search rules) c.node_of.ensures
