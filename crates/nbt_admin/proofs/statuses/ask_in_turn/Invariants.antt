use Rattle.std.proofs.Common.{◌≤◌, take}
use Rattle.nbt_admin.specs.Statuses.{AskedInTurn}
use Rattle.nbt_admin.proofs.statuses.ask_in_turn.Given as goal

abbrev pub invariant-loop-request : goal.invariant-loop-request
invariant-loop-request g l = record {
  asked : AskedInTurn l.many (take l.request-index l.requests) l.status (g.W.Write.contents l.fn.writer) (g.W.Write.contents l.writer);
  bound : l.status ≤ 5;
}
