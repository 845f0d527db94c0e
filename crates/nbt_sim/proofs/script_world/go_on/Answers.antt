use Rattle.std.proofs.Common.{◌≡◌, ◌∙◌, ◌≤◌, ◌^◌, arith, rules}
use Rattle.nbt_sim.specs.Script.{goes_on}
use Rattle.nbt_sim.proofs.Worlds.{goes_to}
use Rattle.nbt_sim.proofs.script_world.go_on.Goals as goal

pub returns : goal.returns
returns c =
    let s = rw c.unwrap-done.ensures at c.step.ensures.step in
    let clock : c.clock-clock.result ≡ c.args.world.now.now.clock = c.clock-clock.ensures in
    let before : c.get-2.result ≡ c.args.world.now.now.clock = c.get-2.ensures.value ∙ clock in
    let after = c.get.ensures in
    let later : c.clock-clock.result ≤ c.args.moment = search rules in
    let not_before : c.args.world.now.now.clock ≤ c.args.moment = omega arith in
    let fits : c.args.moment ≤ 2 ^ 60 = omega (arith, after.value, after.bound) in
    let t = rw (after.value, before) at s in
    let there = goes_to c.args.world.now c.step.new.self c.unwrap-done.result c.args.moment t not_before fits in
    goes_on c.args.moment c.args.world.now c.step.new.self not_before there.0 there.1
