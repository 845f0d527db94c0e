use Rattle.nbt_c.proofs.Common.{ℕ, List, ◌++◌, length, drop, replicate, ap, ◌∙◌, drop-replicate}
use Rattle.nbt_c.proofs.name.fill.Goals as goal

pub returns : goal.returns
returns c = ap (λ (front : List ℕ). front ++ drop (length c.args.labels.now) (replicate 221 0)) c.copy_from_slice.ensures.after
    ∙ ap (λ (rest : List ℕ). c.args.labels.now ++ rest) (drop-replicate (length c.args.labels.now) 221 0)
