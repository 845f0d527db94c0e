use Rattle.std.proofs.Common.{◌<◌, ◌≤◌, sym, arith}
use Rattle.nbt_dgram.specs.Dgram.{fragment_of}
use Rattle.nbt_dgram.specs.Fragments.{end_of}
use Rattle.nbt_dgram.specs.Joiner.{is_of, too_long}
use Rattle.nbt_dgram.specs.Inner.Joining.{led_to}
use Rattle.nbt_dgram.proofs.SlotLists.{all_cleared_room, begins_room, begins_join, taken, waits_join, done_join, join_at_room, not_waiting}
use Rattle.nbt_dgram.proofs.slots.join.Goals as goal

pub returns-then-end-gt-DATA_MOST-clause-joins : goal.returns-then-end-gt-DATA_MOST-clause-joins
returns-then-end-gt-DATA_MOST-clause-joins c =
    let above : 512 < end_of (fragment_of c.args.fragment.now) = omega (arith, c.end.ensures, c.if-end-gt-DATA_MOST.true) in
    rw c.empty.ensures (too_long above)

pub returns-then-end-gt-DATA_MOST-clause-room : goal.returns-then-end-gt-DATA_MOST-clause-room
returns-then-end-gt-DATA_MOST-clause-room c = rw c.empty.ensures (all_cleared_room (is_of c.args.key) c.args.slots.now c.requires)

pub returns-in_default-clause-joins : goal.returns-in_default-clause-joins
returns-in_default-clause-joins c =
    let fits : end_of (fragment_of c.args.fragment.now) ≤ 512 = omega (arith, c.end.ensures, c.if-end-gt-DATA_MOST.false) in
    begins_join c.args.slots.now c.args.now c.args.key (fragment_of c.args.fragment.now) (led_to c.begin.result c.args.room.now) c.begin.new.slots fits (sym c.in_default.ensures) (c.begin.ensures c.args.room.now)

pub returns-in_default-clause-room : goal.returns-in_default-clause-room
returns-in_default-clause-room c =
    let fits : end_of (fragment_of c.args.fragment.now) ≤ 512 = omega (arith, c.end.ensures, c.if-end-gt-DATA_MOST.false) in
    begins_room c.args.slots.now c.args.now c.args.key (fragment_of c.args.fragment.now) (led_to c.begin.result c.args.room.now) c.begin.new.slots fits c.requires (c.begin.ensures c.args.room.now)

pub join_at-requires-clause-taken : goal.join_at-requires-clause-taken
join_at-requires-clause-taken c = taken c.args.slots.now c.args.key c.in-Some.place (sym c.in-Some.ensures)

pub returns-in-Waiting-clause-joins : goal.returns-in-Waiting-clause-joins
returns-in-Waiting-clause-joins c =
    let fits : end_of (fragment_of c.args.fragment.now) ≤ 512 = omega (arith, c.end.ensures, c.if-end-gt-DATA_MOST.false) in
    waits_join c.args.slots.now c.join_at.new.slots c.args.now c.args.key c.in-Some.place (fragment_of c.args.fragment.now) fits (sym c.in-Some.ensures) c.in-Waiting.ensures

pub returns-in-Waiting-clause-room : goal.returns-in-Waiting-clause-room
returns-in-Waiting-clause-room c =
    let fits : end_of (fragment_of c.args.fragment.now) ≤ 512 = omega (arith, c.end.ensures, c.if-end-gt-DATA_MOST.false) in
    join_at_room c.args.slots.now c.join_at.new.slots c.in-Some.place (fragment_of c.args.fragment.now) _ fits c.requires c.in-Waiting.ensures

pub returns-in_default-join_at : goal.returns-in_default-join_at
returns-in_default-join_at c =
    let fits : end_of (fragment_of c.args.fragment.now) ≤ 512 = omega (arith, c.end.ensures, c.if-end-gt-DATA_MOST.false) in
    record {
      joins = done_join c.args.slots.now c.join_at.new.slots c.empty-in_default-join_at.new.slots c.args.now c.args.key c.in-Some.place (fragment_of c.args.fragment.now) (led_to c.join_at.result c.join_at.new.room) fits
          (sym c.in-Some.ensures) c.join_at.ensures (not_waiting c.join_at.result c.join_at.new.room c.in_default-join_at.not-Waiting) c.empty-in_default-join_at.ensures;
      room = rw c.empty-in_default-join_at.ensures
          (all_cleared_room (is_of c.args.key) c.join_at.new.slots (join_at_room c.args.slots.now c.join_at.new.slots c.in-Some.place (fragment_of c.args.fragment.now) (led_to c.join_at.result c.join_at.new.room) fits c.requires c.join_at.ensures));
    }
