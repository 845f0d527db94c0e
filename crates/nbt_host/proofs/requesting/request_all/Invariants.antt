use Rattle.std.proofs.Common.{◌≡◌, take}
use Rattle.nbt_host.proofs.Orders.{Requested}
use Rattle.nbt_host.proofs.requesting.request_all.Given as goal

abbrev pub invariant-loop-goal : goal.invariant-loop-goal
invariant-loop-goal g l = record {
  requested : Requested g.P.Port.does l.server l.now l.fn.port l.fn.node (take l.goal-index l.goals) l.port l.node;
  count : g.P.Port.failures l.port ≡ g.P.Port.failures l.fn.port;
}
