use Rattle.nbt_bench.proofs.node.start_node.Goals as goal

pub returns : goal.returns
returns g c = (c.now-now.result, c.now-now.ensures, c.start.ensures)
