use Rattle.std.proofs.Common.{◌≡◌, ℕ, ◌+◌, List, [], ◌∷◌, length, take, subst, arith}
use Rattle.std.specs.Prelude.{Result, Ok, Err, OnErr}
use Rattle.nbt_world.specs.declared.event.Event.{Event}
use Rattle.nbt_world.specs.declared.event.Event.TheVariants.{Deliver}
use Rattle.nbt_world.specs.declared.event.Outcome.{Outcome}
use Rattle.nbt_world.specs.World.{WorldValue}
use Rattle.nbt_world.specs.Safety.{Run, ends}
use Rattle.nbt_world.specs.Step.{Step}
use Rattle.nbt_world.specs.Getting.{getting}
use Rattle.nbt_world.proofs.Running.{ran_one, ran_two, ran_three}
use Rattle.nbt_world.proofs.world.World.get.Goals as goal

delivered : {a b : WorldValue} {outcome : Outcome} {k l : ℕ} → k ≡ l → Step a (Deliver k) outcome b → Step a (Deliver l) outcome b
delivered {a} {b} {outcome} same s = subst (λ (k : ℕ). Step a (Deliver k) outcome b) same s

pub returns-clause-got : goal.returns-clause-got
returns-clause-got c =
    let e : c.len-asked.result ≡ length c.args.self.now.sent = rw (← c.self.view_is) (omega (arith, c.len-asked.ensures, c.self.inside.sent.ok.0)) in
    c.free_name_is_got.ensures c.args.self.now c.step.new.self c.step-2.new.self c.step-3.new.self c.args.node c.args.name c.args.kind c.args.ttl _ _ _ (rw (← c.self.view_is) c.self.invariant) c.requires c.in_ok-step.ensures.step
    (delivered e c.in_ok-step-2.ensures.step) c.in_default.not-Lost
    (delivered (λ i. e i + 1) c.in_ok-step-3.ensures.step)

pub returns-clause-ran : goal.returns-clause-ran
returns-clause-ran c =
    let e : c.len-asked.result ≡ length c.args.self.now.sent = rw (← c.self.view_is) (omega (arith, c.len-asked.ensures, c.self.inside.sent.ok.0)) in
    (_, ran_three c.in_ok-step.ensures.step (delivered e c.in_ok-step-2.ensures.step) (delivered (λ i. e i + 1) c.in_ok-step-3.ensures.step))

stopped : {A E : Type 0} (r : Result A E) (events : List Event) (old new : WorldValue) (k : ℕ) (worlds : List WorldValue) → Run (take k events) old worlds new → OnErr r ((k : ℕ) × (worlds : List WorldValue) × Run (take k events) old worlds new)
stopped (Ok x) events old new k worlds run = tt
stopped (Err e) events old new k worlds run = (k, worlds, run)

pub returns-in_err-step-clause-stopped : goal.returns-in_err-step-clause-stopped
returns-in_err-step-clause-stopped c =
    stopped c.from_residual.result (getting c.args.self.now c.args.node c.args.name c.args.kind c.args.ttl) c.args.self.now c.step.new.self 0 (c.args.self.now ∷ []) (rw c.in_err-step.ensures.refused (ends c.args.self.now))

pub returns-in_err-step-2-clause-stopped : goal.returns-in_err-step-2-clause-stopped
returns-in_err-step-2-clause-stopped c =
    stopped c.from_residual-in_err-step-2.result (getting c.args.self.now c.args.node c.args.name c.args.kind c.args.ttl) c.args.self.now c.step-2.new.self 1 (c.args.self.now ∷ c.step.new.self ∷ [])
    (rw c.in_err-step-2.ensures.refused (ran_one c.in_ok-step.ensures.step))

pub returns-in-Lost-clause-stopped : goal.returns-in-Lost-clause-stopped
returns-in-Lost-clause-stopped c =
    let e : c.len-asked.result ≡ length c.args.self.now.sent = rw (← c.self.view_is) (omega (arith, c.len-asked.ensures, c.self.inside.sent.ok.0)) in
    (2, _, ran_two c.in_ok-step.ensures.step (delivered e c.in_ok-step-2.ensures.step))

pub returns-in_err-step-3-clause-stopped : goal.returns-in_err-step-3-clause-stopped
returns-in_err-step-3-clause-stopped c =
    let e : c.len-asked.result ≡ length c.args.self.now.sent = rw (← c.self.view_is) (omega (arith, c.len-asked.ensures, c.self.inside.sent.ok.0)) in
    stopped c.from_residual-in_err-step-3.result (getting c.args.self.now c.args.node c.args.name c.args.kind c.args.ttl) c.args.self.now c.step-3.new.self 2 (c.args.self.now ∷ c.step.new.self ∷ c.step-2.new.self ∷ [])
    (rw c.in_err-step-3.ensures.refused (ran_two c.in_ok-step.ensures.step (delivered e c.in_ok-step-2.ensures.step)))
