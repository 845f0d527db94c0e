use Rattle.std.proofs.Common.{◌+◌, ◌≤◌, length}
use Rattle.nbt_name.proofs.Common.{LettersAt}
use Rattle.nbt_name.proofs.reader.expect_each_letter.Given as goal

abbrev pub invariant-loop-k : goal.invariant-loop-k
invariant-loop-k l = record {
  fits : l.place + l.k ≤ length l.octets;
  letters : LettersAt l.octets l.place l.k;
}
