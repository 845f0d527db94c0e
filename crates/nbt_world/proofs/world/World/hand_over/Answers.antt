use Rattle.std.proofs.Common.{refl, sym}
use Rattle.nbt_world.proofs.Worlds.{Took, took_kept, took_over}
use Rattle.nbt_world.proofs.Keeping.{latest-up}
use Rattle.nbt_world.proofs.Granting.{LeaseLaws}
use Rattle.nbt_world.proofs.world.World.hand_over.Goals as goal

took : (c : goal.After-reply) → Took (record { now = c.self.inside.clocks; config = c.self.inside.config; ends = c.self.inside.ends; sent = c.self.inside.sent.items; least = c.self.inside.least; kept = c.self.inside.kept; timely = c.self.inside.timely }) c.args.from c.args.to
    c.args.octets.now c.args.number c.take-taken.new.self c.reply.new.sent.items c.reply.result
took c =
    let t = c.take-taken.ensures in
    let r = c.reply.ensures (record { now = c.self.inside.clocks; config = c.self.inside.config; ends = c.self.inside.ends; sent = c.self.inside.sent.items; least = c.self.inside.least; kept = c.self.inside.kept; timely = c.self.inside.timely }) c.take-taken.new.self t.0 (sym c.try_reserve.ensures.items) refl t.2 in
    record { taken = t.0; at = rw (← c.self.view_is) at c.requires.there; does = rw c.reading-now.ensures at t.1; origin = rw (← c.self.view_is) at c.requires.origin; outcome_is = r.0; left = r.1 }

laws : (c : goal.After-reply) → LeaseLaws
laws c = record {
  elsewhere = c.one_name_changes.ensures.elsewhere;
  here = c.one_name_changes.ensures.here;
  others_granted = c.leases_of_others_stay.ensures.granted;
  others_released = c.leases_of_others_stay.ensures.released;
  stands = c.granted_lease_stands.ensures.lease;
  granted_sound = c.leases_stay_sound.ensures.granted;
  released_sound = c.leases_stay_sound.ensures.released;
  holds = c.hold_ends_first.ensures.between;
  beside = c.granted_lease_stands.ensures.beside;
}

pub take-taken-requires-clause-server : goal.take-taken-requires-clause-server
take-taken-requires-clause-server c = λ server zero up. rw (c.reading-now.ensures, zero) ((c.self.invariant.server server (latest-up c.self.inside.ends server up)).past)

pub invariant_of-self-2 : goal.invariant_of-self-2
invariant_of-self-2 c = took_kept (record { one_message = c.one_message_spelled.ensures; rests = c.rest_outlasts_datagrams.ensures.between }) (laws c) c.self.invariant (took c)

pub returns-clause-handed : goal.returns-clause-handed
returns-clause-handed c = rw (← c.self.view_is) (took_over (took c))
