use Rattle.std.proofs.Common.{◌≡◌, refl, ap, arith}
use Rattle.nbt_dgram.specs.Dgram.{fragment_of, body_of}
use Rattle.nbt_dgram.specs.Joiner.{joined_of, is_old, clock_back, alone, joins}
use Rattle.nbt_dgram.proofs.SlotLists.{all_cleared_room}
use Rattle.nbt_dgram.specs.Inner.Joining.{led_to}
use Rattle.nbt_dgram.proofs.joiner.Joiner.put.Goals as goal
use Rattle.nbt_dgram.proofs.joiner.Joiner.put.Goals.{in-Whole, in-Waiting, in-Dropped}

pub returns-then-get-self : goal.returns-then-get-self
returns-then-get-self g c = rw (← c.self.view_is) (clock_back (omega (arith, c.get.ensures.value, c.if-get-self.true)))

pub invariant_of-self : goal.invariant_of-self
invariant_of-self g c = rw c.give_up.ensures.kept (all_cleared_room (is_old c.args.now) c.self.inside.slots c.self.invariant)

pub returns : goal.returns
returns g c =
    let told : joined_of c.match-join.result ≡ led_to c.join.result c.join.new.room =
    elim c.match-join.branch [
      | in-Whole w ↦ rw (w.result-is, w.in-Whole.is) w.joined.ensures
      | in-Waiting w ↦ rw (w.result-is, w.in-Waiting.is) refl
      | in-Dropped w ↦ rw (w.result-is, w.in-Dropped.is) refl
    ] in
    rw (← c.self.view_is, c.get-self-inside.ensures.value, told)
    (joins (fragment_of c.in-Fragment.fragment) (led_to c.join.result c.join.new.room) c.join.new.slots (omega (arith, c.get.ensures.value, c.if-get-self.false)) (ap body_of c.in-Fragment.is) c.in_default-names_if_whole.ensures.part
    (rw c.give_up.ensures.kept at c.join.ensures.joins))

pub join-requires : goal.join-requires
join-requires g c = rw c.give_up.ensures.kept (all_cleared_room (is_old c.args.now) c.self.inside.slots c.self.invariant)

pub returns-in-Some : goal.returns-in-Some
returns-in-Some g c =
    rw (← c.self.view_is, c.get-self-inside.ensures.value, c.give_up.ensures.kept, c.copy.ensures)
    (alone (fragment_of c.in-Fragment.fragment) c.in-Some.names.now (omega (arith, c.get.ensures.value, c.if-get-self.false)) (ap body_of c.in-Fragment.is) c.in-Some.ensures.whole.0 c.in-Some.ensures.whole.1)
