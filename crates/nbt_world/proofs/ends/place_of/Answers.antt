use Rattle.std.proofs.Common.{sym, ◌∙◌}
use Rattle.nbt_world.proofs.Finding.{found_here, none_more, none_at_all}
use Rattle.nbt_world.proofs.ends.place_of.Goals as goal

pub returns-then-eq-clause-found : goal.returns-then-eq-clause-found
returns-then-eq-clause-found c = found_here c.args.nodes.now c.loop-index.index c.index-nodes-index.result c.args.addr c.loop-index-test.true c.index-nodes-index.is (sym c.eq.ensures ∙ c.if-eq.true)

pub loop-index-preserved : goal.loop-index-preserved
loop-index-preserved c = none_more c.args.nodes.now c.loop-index.index c.index-nodes-index.result c.args.addr c.loop-index.invariant c.loop-index-test.true c.index-nodes-index.is (sym c.eq.ensures ∙ c.if-eq.false)

pub returns-clause-none : goal.returns-clause-none
returns-clause-none c = λ none. none_at_all c.args.nodes.now c.loop-index.index c.args.addr c.loop-index.invariant c.loop-index-test.false
