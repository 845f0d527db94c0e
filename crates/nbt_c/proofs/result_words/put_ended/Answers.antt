-- Words, and zeros behind them.
use Rattle.nbt_c.proofs.Common.{List, ℕ, ap, ◌∙◌, drop, replicate, length, ◌++◌, drop-replicate}
use Rattle.nbt_c.proofs.result_words.put_ended.Goals as goal

pub returns : goal.returns
returns c = ap (λ (front : List ℕ). front ++ drop (length c.args.words.now) (replicate 64 0)) c.copy_from_slice.ensures.after
    ∙ ap (λ (rest : List ℕ). c.args.words.now ++ rest) (drop-replicate (length c.args.words.now) 64 0)
