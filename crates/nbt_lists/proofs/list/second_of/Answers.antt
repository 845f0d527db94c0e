use Rattle.std.proofs.Common.{◌∙◌, ℕ, List, ◌++◌, ap, sym, subst}
use Rattle.nbt_log.specs.Dates.{IsTimeText}
use Rattle.nbt_lists.proofs.list.second_of.Goals as goal

pub returns : goal.returns
returns c =
    let written = c.in_ok-write_time.ensures in
    subst (λ (text : List ℕ). IsTimeText c.in-Ok-try_from.second text)
    (ap (λ (old : List ℕ). old ++ written.0) (sym c.new-same.ensures.bytes) ∙ sym written.2 ∙ sym c.as_bytes.ensures.value ∙ c.are_same.ensures.0 c.if-not-are_same.false)
    written.1
