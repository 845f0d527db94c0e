use Rattle.std.proofs.Common.{◌≡◌, ◌++◌, List, map}
use Rattle.std.specs.VecDeque.{deque_capacity, deque_len}
use Rattle.nbt_port.specs.PortCalls.{Chain}
use Rattle.nbt_serve.specs.Waiting.{ReplyValue, sends_of, value_of}
use Rattle.nbt_serve.proofs.waiting.send_each.Given as goal

abbrev pub invariant-sends : goal.invariant-sends
invariant-sends g l = record {
  posted : (before : List ReplyValue) × (before ++ map value_of l.replies.items ≡ map value_of l.fn.replies.items) × Chain g.P.Port.does l.fn.port (sends_of before) l.port;
  capacity : deque_capacity l.replies ≡ deque_capacity l.fn.replies;
}

abbrev pub decreases-sends : goal.decreases-sends
decreases-sends g l = deque_len l.replies
