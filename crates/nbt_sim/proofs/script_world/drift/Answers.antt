use Rattle.std.proofs.Common.{◌≡◌, ℕ, ◌<◌, length, sym, subst, arith}
use Rattle.std.specs.Prelude.{◌↔◌}
use Rattle.nbt_world.specs.World.{IsEnd}
use Rattle.nbt_sim.specs.Script.{drifts, entries}
use Rattle.nbt_sim.proofs.Places.{same_count}
use Rattle.nbt_sim.proofs.Worlds.{drifts_to}
use Rattle.nbt_sim.proofs.script_world.drift.Goals as goal

pub returns-then-len-end_count : goal.returns-then-len-end_count
returns-then-len-end_count c = λ are.
    let same : length c.args.moves.now.items ≡ c.end_count.result = same_count (λ n. IsEnd c.args.world.now.ends n) (length c.args.moves.now.items) c.end_count.result are c.end_count.ensures.exactly in
    omega (arith, same, c.len.ensures.value, c.if-len-end_count.true)

pub returns : goal.returns
returns c =
    let same : length c.args.moves.now.items ≡ c.end_count.result = omega (arith, c.len.ensures.value, c.if-len-end_count.false) in
    let s = rw c.unwrap-done.ensures at c.step.ensures.step in
    drifts c.args.ms c.args.moves.now c.args.world.now c.step.new.self
    (λ n. subst (λ (k : ℕ). (n < k) ↔ IsEnd c.args.world.now.ends n) (sym same) (c.end_count.ensures.exactly n))
    (drifts_to c.args.world.now c.step.new.self c.unwrap-done.result c.args.ms c.entries_of-readings.result (entries c.args.moves.now.items) s c.entries_of-readings.ensures)
