use Rattle.std.proofs.Common.{◌≡◌, ◌++◌, List, map, Some}
use Rattle.std.specs.VecDeque.{deque_capacity, deque_len}
use Rattle.nbt_port.specs.PortCalls.{Chain}
use Rattle.nbt_nbns.specs.Teller.{SeesOne}
use Rattle.nbt_nbns.specs.declared.teller.Untold.{Untold}
use Rattle.nbt_nbns.proofs.teller.show_each.Given as goal

abbrev pub invariant-turns : goal.invariant-turns
invariant-turns g l = record {
  seen : (before : List Untold) × (before ++ l.untold.items ≡ l.fn.untold.items)
      × Chain (SeesOne g.V.Watcher.sees l.fn.server) (record { watcher = l.fn.watcher; text = g.W.Write.contents l.fn.writer }) (map (λ turn. record l.fn.shown { entry = Some turn.entry }) before) (record { watcher = l.watcher; text = g.W.Write.contents l.writer });
  capacity : deque_capacity l.untold ≡ deque_capacity l.fn.untold;
}

abbrev pub decreases-turns : goal.decreases-turns
decreases-turns g l = deque_len l.untold
