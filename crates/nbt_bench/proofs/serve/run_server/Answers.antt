use Rattle.nbt_port.specs.Clocks.{MachineTells}
use Rattle.nbt_port.specs.Udp.{UdpDoes}
use Rattle.nbt_bench.specs.Serve.{ServerFails, ServerIsCut}
use Rattle.nbt_bench.proofs.Beginning.{begins_here}
use Rattle.nbt_bench.proofs.serve.run_server.Goals as goal

pub returns-clause-device : goal.returns-clause-device
returns-clause-device g c = λ same. begins_here c.args.arguments.now.bind
    (λ old_port old_clock port clock. ServerFails UdpDoes MachineTells c.args.arguments.now old_port old_clock (g.W.Write.contents c.args.writer.now) port clock (g.W.Write.contents c.serve-served.new.writer))
    c.in_ok-port.port c.serve-served.new.port c.in_ok-clock.clock c.serve-served.new.clock c.in_ok-port.ensures.ok c.in_ok-clock.ensures.ok (c.serve-served.ensures.device same)

pub returns-clause-output : goal.returns-clause-output
returns-clause-output g c = λ same. begins_here c.args.arguments.now.bind (ServerIsCut UdpDoes MachineTells c.args.arguments.now)
    c.in_ok-port.port c.serve-served.new.port c.in_ok-clock.clock c.serve-served.new.clock c.in_ok-port.ensures.ok c.in_ok-clock.ensures.ok (c.serve-served.ensures.output same)
