use Rattle.std.proofs.Common.{◌≡◌, Some, refl, sym, ◌∙◌, arith}
use Rattle.std.specs.Prelude.{slice_get}
use Rattle.nbt_world.specs.Step.{no_datagram, no_end, too_late, delivered}
use Rattle.nbt_world.specs.World.{IsDeliverable}
use Rattle.nbt_world.specs.Inner.Handing.{listed}
use Rattle.nbt_world.proofs.Worlds.{hands_step, not_there_in, there_in, found_among}
use Rattle.nbt_world.proofs.world.World.deliver.Goals as goal

pub returns-in_default-clause-step : goal.returns-in_default-clause-step
returns-in_default-clause-step c = rw (← c.self.view_is) (no_datagram c.args.k (not_there_in c.as_slice.result.now c.self.inside.sent.items c.args.k c.as_slice.ensures.value (c.in_default.ensures.lookup).0))

pub returns-in_default-find-clause-step : goal.returns-in_default-find-clause-step
returns-in_default-find-clause-step c =
    let there : slice_get c.self.inside.sent.items c.args.k ≡ Some c.in-Some.datagram.now =
    there_in c.as_slice.result.now c.self.inside.sent.items c.args.k _ c.as_slice.ensures.value (c.in-Some.ensures.lookup).0 (c.in-Some.ensures.lookup).1 in
    rw (← c.self.view_is) (no_end c.args.k c.in-Some.datagram.now there (c.in_default-find.ensures.none refl))

pub returns-then-get-life-clause-step : goal.returns-then-get-life-clause-step
returns-then-get-life-clause-step c =
    let there : slice_get c.self.inside.sent.items c.args.k ≡ Some c.in-Some.datagram.now =
    there_in c.as_slice.result.now c.self.inside.sent.items c.args.k _ c.as_slice.ensures.value (c.in-Some.ensures.lookup).0 (c.in-Some.ensures.lookup).1 in
    rw (← c.self.view_is)
    (too_late c.args.k c.in-Some.datagram.now c.in-Some-find.number there c.in-Some-find.ensures.found (λ d. omega (arith, c.get-2.ensures.value, c.get-3.ensures.value, c.life.ensures.value, c.if-get-life.true)))

pub hand_over-requires-clause-there : goal.hand_over-requires-clause-there
hand_over-requires-clause-there c = rw (← c.self.view_is) c.in-Some-find.ensures.found

pub hand_over-requires-clause-origin : goal.hand_over-requires-clause-origin
hand_over-requires-clause-origin c =
    let there : slice_get c.self.inside.sent.items c.args.k ≡ Some c.in-Some.datagram.now =
    there_in c.as_slice.result.now c.self.inside.sent.items c.args.k _ c.as_slice.ensures.value (c.in-Some.ensures.lookup).0 (c.in-Some.ensures.lookup).1 in
    let in_time : IsDeliverable c.self.inside.config.life c.self.inside.clocks.clock c.in-Some.datagram.now.moment.clock = omega (arith, c.get-2.ensures.value, c.get-3.ensures.value, c.life.ensures.value, c.if-get-life.false) in
    rw (← c.self.view_is)
    (listed c.in-Some.datagram.now (found_among c.self.inside.sent.items c.args.k c.in-Some.datagram.now there) refl refl (sym (c.as_slice-2.ensures.value ∙ c.copy_octets-octets.ensures)) in_time)

pub returns-clause-step : goal.returns-clause-step
returns-clause-step c =
    let there : slice_get c.self.inside.sent.items c.args.k ≡ Some c.in-Some.datagram.now =
    there_in c.as_slice.result.now c.self.inside.sent.items c.args.k _ c.as_slice.ensures.value (c.in-Some.ensures.lookup).0 (c.in-Some.ensures.lookup).1 in
    let in_time : IsDeliverable c.self.inside.config.life c.self.inside.clocks.clock c.in-Some.datagram.now.moment.clock = omega (arith, c.get-2.ensures.value, c.get-3.ensures.value, c.life.ensures.value, c.if-get-life.false) in
    let octets = c.as_slice-2.ensures.value ∙ c.copy_octets-octets.ensures in
    hands_step c.args.self.now c.hand_over.new.self c.in-Some-find.number c.in-Some.datagram.now.from c.in-Some.datagram.now.to c.as_slice-2.result.now _ c.hand_over.result c.hand_over.ensures.handed
    (rw (← c.self.view_is)
    (λ taken ends does. delivered c.args.k c.in-Some.datagram.now c.in-Some-find.number taken ends there c.in-Some-find.ensures.found in_time (rw octets at does)))
