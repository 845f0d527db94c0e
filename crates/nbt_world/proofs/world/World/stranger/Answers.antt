use Rattle.std.proofs.Common.{sym, ◌∙◌}
use Rattle.std.proofs.lemmas.Bool.{false≢true}
use Rattle.nbt_world.specs.Step.{from_an_end, to_no_end, from_a_stranger}
use Rattle.nbt_world.specs.Inner.Handing.{strange}
use Rattle.nbt_world.proofs.Worlds.{hands_step}
use Rattle.nbt_world.proofs.world.World.stranger.Goals as goal

pub returns-then-has_ip-clause-step : goal.returns-then-has_ip-clause-step
returns-then-has_ip-clause-step c = rw (← c.self.view_is) (from_an_end c.args.from c.args.number c.args.octets.now (c.has_ip.ensures.0 c.if-has_ip.true))

pub returns-in_default-clause-step : goal.returns-in_default-clause-step
returns-in_default-clause-step c = rw (← c.self.view_is) (to_no_end c.args.from c.args.number c.args.octets.now (sym c.in_default.ensures))

pub hand_over-requires-clause-there : goal.hand_over-requires-clause-there
hand_over-requires-clause-there c = rw (← c.self.view_is) (sym c.addr.ensures ∙ c.in-Some.is)

pub hand_over-requires-clause-origin : goal.hand_over-requires-clause-origin
hand_over-requires-clause-origin c = rw (← c.self.view_is) (strange (λ is. false≢true (c.if-has_ip.ensures.1 is)))

pub returns-clause-step : goal.returns-clause-step
returns-clause-step c =
    hands_step c.args.self.now c.hand_over.new.self c.args.number c.args.from c.in-Some.to c.as_slice.result.now _ c.hand_over.result c.hand_over.ensures.handed
    (rw (← c.self.view_is)
    (λ taken ends does. from_a_stranger c.args.from c.in-Some.to c.args.number c.args.octets.now taken ends (λ is. false≢true (c.if-has_ip.ensures.1 is)) (sym c.addr.ensures ∙ c.in-Some.is) (rw c.as_slice.ensures.value at does)))
