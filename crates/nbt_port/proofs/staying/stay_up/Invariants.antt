use Rattle.std.proofs.Common.{◌≡◌, ◌<◌}
use Rattle.nbt_port.specs.Staying.{Goes}
use Rattle.nbt_port.specs.Numbers.{failures_most}
use Rattle.nbt_port.proofs.staying.stay_up.Given as goal

-- the turns so far, of which not too many have failed in a row
abbrev pub invariant-loop : goal.invariant-loop
invariant-loop g l = record {
  run : Goes (g.T.Turn.turns (g.T.Turn.fixed l.fn.turn)) (g.T.Turn.breaks (g.T.Turn.fixed l.fn.turn)) l.counter l.row.failed (g.T.Turn.state l.fn.turn) (g.T.Turn.state l.turn);
  few : l.row.failed < failures_most;
  fixed : g.T.Turn.fixed l.turn ≡ g.T.Turn.fixed l.fn.turn;
}
