use Rattle.nbt_port.specs.Udp.{UdpDoes}
use Rattle.nbt_bench.specs.Node.{NodeFails, NodeIsCut}
use Rattle.nbt_bench.proofs.Beginning.{begins_here}
use Rattle.nbt_bench.proofs.node.run_node.Goals as goal

pub returns-clause-device : goal.returns-clause-device
returns-clause-device g c = λ same. begins_here c.args.arguments.now.bind
    (λ old_port old_clock port clock. NodeFails UdpDoes c.args.arguments.now old_port old_clock (g.W.Write.contents c.args.writer.now) port clock (g.W.Write.contents c.run_turns-run.new.writer))
    c.in_ok-port.port c.run_turns-run.new.port c.in_ok-clock.clock c.run_turns-run.new.clock c.in_ok-port.ensures.ok c.in_ok-clock.ensures.ok (c.run_turns-run.ensures.device same)

pub returns-clause-output : goal.returns-clause-output
returns-clause-output g c = λ same. begins_here c.args.arguments.now.bind
    (λ old_port old_clock port clock. NodeIsCut UdpDoes c.args.arguments.now old_port old_clock (g.W.Write.contents c.args.writer.now) port clock (g.W.Write.contents c.run_turns-run.new.writer))
    c.in_ok-port.port c.run_turns-run.new.port c.in_ok-clock.clock c.run_turns-run.new.clock c.in_ok-port.ensures.ok c.in_ok-clock.ensures.ok (c.run_turns-run.ensures.output same)
