use Rattle.std.proofs.Common.{◌≡◌, Bool, ◌&&◌, sym, ap, ◌∙◌}
use Rattle.std.specs.Prelude.{slice_index}
use Rattle.nbt_world.specs.Step.{Advances}
use Rattle.nbt_world.proofs.Clock.{clock_changes}
use Rattle.nbt_world.proofs.Advancing.{advanced}
use Rattle.nbt_world.proofs.world.World.go_on.Goals as goal
use Rattle.nbt_world.proofs.world.World.go_on.Goals.{then-self, else-self, then-self-2, else-self-2}

still : (c : goal.After-self-2-1) → c.if-self.self ≡ (c.self.inside.kept && c.watch-allowed.result)
still c =
    elim c.if-self.branch [
      | then-self w ↦ w.self-is ∙ ap (λ (b : Bool). b && c.watch-allowed.result) (sym w.if-self.true)
      | else-self w ↦ w.self-is ∙ w.if-self.false ∙ ap (λ (b : Bool). b && c.watch-allowed.result) (sym w.if-self.false)
    ]

still_timely : (c : goal.After-self-2-1) → c.if-self-2.self ≡ (c.self.inside.timely && c.are_timely-timely.result)
still_timely c =
    elim c.if-self-2.branch [
      | then-self-2 w ↦ w.self-is ∙ ap (λ (b : Bool). b && c.are_timely-timely.result) (sym w.if-self-2.true)
      | else-self-2 w ↦ w.self-is ∙ w.if-self-2.false ∙ ap (λ (b : Bool). b && c.are_timely-timely.result) (sym w.if-self-2.false)
    ]

goes : (c : goal.After-self-2-1) → Advances (record { now = c.self.inside.clocks; config = c.self.inside.config; ends = c.self.inside.ends; sent = c.self.inside.sent.items; least = c.self.inside.least; kept = c.self.inside.kept; timely = c.self.inside.timely }) c.args.ms (slice_index c.args.readings.now)
    (record { now = c.go_on.new.self; config = c.self.inside.config; ends = c.self.inside.ends; sent = c.self.inside.sent.items; least = c.watch-allowed.new.least; kept = c.if-self.self; timely = c.if-self-2.self })
goes c =
    let most = c.self.invariant.ends.nodes_at_most in
    let ends = c.len-ends.ensures.value in
    advanced most c.go_on.ensures.clock c.go_on.ensures.readings (rw c.len-ends.ensures.value at c.watch-allowed.ensures.least) (rw c.len-ends.ensures.value at c.watch-allowed.ensures.allowed) (still c) (rw c.len-ends.ensures.value at c.are_timely-timely.ensures) (still_timely c)

pub invariant_of-self : goal.invariant_of-self
invariant_of-self c = clock_changes c.leases_stay_sound.ensures.later c.later_leases_live_now.ensures c.hold_ends_first.ensures.between (goes c) c.self.invariant

pub returns-clause-step : goal.returns-clause-step
returns-clause-step c = rw (← c.self.view_is) (goes c)

pub returns-clause-nodes_at_most : goal.returns-clause-nodes_at_most
returns-clause-nodes_at_most c = rw (← c.self.view_is) (c.self.invariant.ends.nodes_at_most)
