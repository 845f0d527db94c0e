use Rattle.nbt_front.proofs.LineByLine.{SoFar, Failing}
use Rattle.nbt_front.proofs.reading.read_fixed.Given as goal

abbrev pub invariant-lines : goal.invariant-lines
invariant-lines l = record {
  so_far : SoFar l.lines l.place l.names;
  failing : Failing l.lines l.place l.names;
}
