use Rattle.std.proofs.Common.{refl, sym, None, inl, inr}
use Rattle.std.specs.Prelude.{replicate}
use Rattle.nbt_node.proofs.Known.{distinct-none}
use Rattle.nbt_node.proofs.Moving.{by_time, settled_apart, others_by_time, moved_apart, asked_is, known_is, may_ask}
use Rattle.nbt_node.proofs.laws.each_name.Goals as goal

pub returns-clause-start : goal.returns-clause-start
returns-clause-start c = λ count addr server config now. distinct-none (replicate count None) count refl

pub returns-clause-moves : goal.returns-clause-moves
returns-clause-moves c = λ old new now name event sent told apart moves. (
  λ known. elim known [
    | inl other ↦ known_is old new now name event sent told moves apart other
    | inr none ↦ asked_is old new now name event sent told moves apart (may_ask old now name (sym none)).room
  ],
  others_by_time old new now name event sent told moves apart,
  moved_apart old new now name event sent told moves apart,
)

pub returns-clause-time : goal.returns-clause-time
returns-clause-time c = λ old new now apart is. (by_time old new now is apart, settled_apart old new now is apart)
