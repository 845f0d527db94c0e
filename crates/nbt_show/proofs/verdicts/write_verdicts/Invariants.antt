use Rattle.std.proofs.Common.{◌≡◌, ◌+◌, ◌≤◌, ◌++◌, ℕ, List, length}
use Rattle.std.specs.String.{string_bytes}
use Rattle.nbt_text.specs.Lines.{lines}
use Rattle.nbt_text.proofs.Splitting.{left}
use Rattle.nbt_show.proofs.LineByLine.{Continues, lines_left}
use Rattle.nbt_show.proofs.verdicts.write_verdicts.Given as goal

abbrev pub invariant-lines : goal.invariant-lines
invariant-lines l = record {
  counted : l.number + left l.rest ≤ length l.fn.input + 1;
  told : l.passed + l.failed ≤ l.number;
  printed : (text : List ℕ) × (string_bytes l.out ≡ string_bytes l.fn.out ++ text)
      × Continues l.number (lines_left l.rest) (lines l.fn.input) text l.passed l.failed;
}

abbrev pub decreases-lines : goal.decreases-lines
decreases-lines l = left l.rest
