use Rattle.std.proofs.Common.{refl, sym}
use Rattle.nbt_world.proofs.Worlds.{node_is_of, stays_down, Gave, gave_kept, gave_step}
use Rattle.nbt_world.proofs.world.World.node_event.Goals as goal

pub node_event-done-requires-clause-server : goal.node_event-done-requires-clause-server
node_event-done-requires-clause-server c = λ node up. ((node_is_of _ c.args.number node c.self.invariant up).1).server_is

pub node_event-done-requires-clause-time : goal.node_event-done-requires-clause-time
node_event-done-requires-clause-time c = λ node up. rw c.reading-now.ensures (((node_is_of _ c.args.number node c.self.invariant up).1).past)

pub returns-in_default-clause-step : goal.returns-in_default-clause-step
returns-in_default-clause-step c =
    let down = c.in_default.ensures.down refl in
    rw (← c.self.view_is) (stays_down down.1 c.try_reserve.ensures.items c.requires down.0)

gave : (c : goal.After-give) → Gave (record { now = c.self.inside.clocks; config = c.self.inside.config; ends = c.self.inside.ends; sent = c.self.inside.sent.items; least = c.self.inside.least; kept = c.self.inside.kept; timely = c.self.inside.timely }) c.args.event.now c.args.number c.node_event-done.new.self c.give.new.sent.items c.give.result
gave c =
    let d = c.in-Some.ensures.does in
    let g = c.give.ensures (record { now = c.self.inside.clocks; config = c.self.inside.config; ends = c.self.inside.ends; sent = c.self.inside.sent.items; least = c.self.inside.least; kept = c.self.inside.kept; timely = c.self.inside.timely }) c.args.number d.1 (sym c.try_reserve.ensures.items) refl (sym d.5) in
    record { node = d.0; new = d.1; given = _; own = c.requires; up = d.2; does = rw c.reading-now.ensures at d.3; ends_is = d.4; outcome_is = g.0; left = g.1 }

pub invariant_of-self-2 : goal.invariant_of-self-2
invariant_of-self-2 c = gave_kept (record { one_message = c.one_message_spelled.ensures; rests = c.rest_outlasts_datagrams.ensures.between }) c.self.invariant (gave c)

pub returns-clause-step : goal.returns-clause-step
returns-clause-step c = rw (← c.self.view_is) (gave_step (gave c))
