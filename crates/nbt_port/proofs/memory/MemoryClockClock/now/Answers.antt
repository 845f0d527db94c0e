use Rattle.nbt_port.proofs.Remembering.{told_next, told_again, empty}
use Rattle.nbt_port.proofs.memory.MemoryClockClock.now.Goals as goal
use Rattle.nbt_port.proofs.memory.MemoryClockClock.now.Goals.{in-Some, in_default}

pub returns : goal.returns
returns c =
    elim c.match-pop_front.branch [
      | in-Some w ↦ rw w.self-inside-is (told_next c.args.self.now c.self.inside.left.items c.pop_front.new.self.items c.self.inside.last w.in-Some.moment c.self.view_is w.in-Some.ensures.items)
      | in_default w ↦ rw w.self-inside-is (told_again c.args.self.now c.self.inside.left.items c.pop_front.new.self.items c.self.inside.last c.self.view_is w.in_default.ensures.items (empty c.self.inside.left.items c.pop_front.new.self.items w.in_default.ensures.items w.in_default.ensures.rest))
    ]
