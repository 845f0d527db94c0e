use Rattle.std.proofs.Common.{refl, sym, ◌∙◌}
use Rattle.std.proofs.lemmas.Bool.{false≢true}
use Rattle.nbt_world.specs.Step.{beside_no_end, beside_moves, beside_to_no_end, from_beside}
use Rattle.nbt_world.specs.Inner.Handing.{harmless}
use Rattle.nbt_world.proofs.Worlds.{hands_step}
use Rattle.nbt_world.proofs.world.World.beside.Goals as goal

pub returns-then-not-has_ip-clause-step : goal.returns-then-not-has_ip-clause-step
returns-then-not-has_ip-clause-step c = rw (← c.self.view_is) (beside_no_end c.args.from c.args.number c.args.octets.now (λ is. false≢true (c.if-not-has_ip.ensures.1 is)))

pub returns-then-spell_move-clause-step : goal.returns-then-spell_move-clause-step
returns-then-spell_move-clause-step c = rw (← c.self.view_is) (beside_moves c.args.from c.args.number c.args.octets.now (rw c.as_slice.ensures.value at (c.if-spell_move.ensures.0 refl)))

pub returns-in_default-clause-step : goal.returns-in_default-clause-step
returns-in_default-clause-step c = rw (← c.self.view_is) (beside_to_no_end c.args.from c.args.number c.args.octets.now (sym c.in_default.ensures))

pub hand_over-requires-clause-there : goal.hand_over-requires-clause-there
hand_over-requires-clause-there c = rw (← c.self.view_is) (sym c.addr.ensures ∙ c.in-Some.is)

pub hand_over-requires-clause-origin : goal.hand_over-requires-clause-origin
hand_over-requires-clause-origin c = rw (← c.self.view_is) (harmless (λ is. false≢true (c.if-spell_move.ensures.1 (rw (c.as_slice-2.ensures.value, ← c.as_slice.ensures.value) at is))))

pub returns-clause-step : goal.returns-clause-step
returns-clause-step c =
    hands_step c.args.self.now c.hand_over.new.self c.args.number c.args.from c.in-Some.to c.as_slice-2.result.now _ c.hand_over.result c.hand_over.ensures.handed
    (rw (← c.self.view_is)
    (λ taken ends does. from_beside c.args.from c.in-Some.to c.args.number c.args.octets.now taken ends (c.if-not-has_ip.ensures.0 refl) (λ is. false≢true (c.if-spell_move.ensures.1 (rw (← c.as_slice.ensures.value) at is)))
    (sym c.addr.ensures ∙ c.in-Some.is) (rw c.as_slice-2.ensures.value at does)))
