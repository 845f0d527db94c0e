use Rattle.std.proofs.Common.{arith}
use Rattle.nbt_dgram.specs.Joiner.{is_old, too_early, given_up}
use Rattle.nbt_dgram.proofs.SlotLists.{all_cleared_room}
use Rattle.nbt_dgram.proofs.joiner.Joiner.sweep.Goals as goal

pub returns-then-get-self : goal.returns-then-get-self
returns-then-get-self g c = rw (← c.self.view_is) (too_early (omega (arith, c.get.ensures.value, c.if-get-self.true)))

pub invariant_of-self : goal.invariant_of-self
invariant_of-self g c = rw c.give_up.ensures.kept (all_cleared_room (is_old c.args.now) c.self.inside.slots c.self.invariant)

pub returns : goal.returns
returns g c = rw (← c.self.view_is, c.give_up.ensures.kept, c.give_up.ensures.count, c.get-self-inside.ensures.value) (given_up (omega (arith, c.get.ensures.value, c.if-get-self.false)))
