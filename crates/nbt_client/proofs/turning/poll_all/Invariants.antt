use Rattle.std.proofs.Common.{◌≡◌, List}
use Rattle.nbt_port.specs.PortCalls.{PortCall, Chain}
use Rattle.nbt_client.specs.Turning.{PollsTo}
use Rattle.nbt_client.proofs.Dues.{dues}
use Rattle.nbt_client.proofs.turning.poll_all.Given as goal

abbrev pub invariant-loop-to : goal.invariant-loop-to
invariant-loop-to g l = record {
  polls : (acts : List PortCall) × Chain (PollsTo l.now) l.fn.node acts l.node × Chain g.P.Port.does l.fn.port acts l.port;
  count : g.P.Port.failures l.port ≡ g.P.Port.failures l.fn.port;
}

abbrev pub decreases-loop-to : goal.decreases-loop-to
decreases-loop-to g l = dues l.now l.node
