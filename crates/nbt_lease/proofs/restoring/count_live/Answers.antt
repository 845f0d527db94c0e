use Rattle.std.proofs.Common.{◌≡◌, ◌+◌, ◌++◌, ◌∷◌, [], take, ℕ, sym, ap, ◌∙◌, arith}
use Rattle.nbt_lease.proofs.Common.{live_count}
use Rattle.nbt_lease.proofs.Rows.{none_count}
use Rattle.nbt_lease.proofs.Restored.{rows_next, count_more, count_same}
use Rattle.nbt_lease.proofs.restoring.count_live.Goals as goal
use Rattle.nbt_lease.proofs.restoring.count_live.Goals.{then-now-row, else-now-row}

pub loop-index-init : goal.loop-index-init
loop-index-init c = (omega arith, sym (none_count c.args.now))

pub loop-index-preserved : goal.loop-index-preserved
loop-index-preserved c =
    let next : take (c.loop-index.index + 1) c.args.rows.now ≡ take c.loop-index.index c.args.rows.now ++ c.index-rows-index.result ∷ [] = rows_next c.args.rows.now c.loop-index.index c.index-rows-index.result c.loop-index-test.true c.index-rows-index.is in
    elim c.if-now-row.branch [
      | then-now-row w ↦ (
        omega (arith, w.live-is, c.loop-index.invariant.0),
        w.live-is ∙ (ap (λ (n : ℕ). n + 1) c.loop-index.invariant.1 ∙ (sym (count_more c.args.now (take c.loop-index.index c.args.rows.now) c.index-rows-index.result w.if-now-row.true) ∙ ap (live_count c.args.now) (sym next))),
      )
      | else-now-row w ↦ (
        omega (arith, w.live-is, c.loop-index.invariant.0),
        w.live-is ∙ (c.loop-index.invariant.1 ∙ (sym (count_same c.args.now (take c.loop-index.index c.args.rows.now) c.index-rows-index.result w.if-now-row.false) ∙ ap (live_count c.args.now) (sym next))),
      )
    ]
