use Rattle.std.proofs.Common.{◌≡◌, ◌≤◌, drop, length}
use Rattle.nbt_text.specs.Texts.{texts}
use Rattle.nbt_sim.proofs.Spelled.{AreSpelled}
use Rattle.nbt_sim.proofs.words.MovesArguments.read_all.Given as goal

abbrev pub invariant-loop-word : goal.invariant-loop-word
invariant-loop-word l = record {
  so_far : AreSpelled (texts (drop l.word-index l.words)) (texts l.words) l.moves.items;
  count : length l.moves.items ≡ l.word-index;
  few : length l.moves.items ≤ length l.words;
}
