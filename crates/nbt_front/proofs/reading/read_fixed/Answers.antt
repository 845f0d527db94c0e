use Rattle.std.proofs.Common.{◌∙◌, ℕ, List, [], ap, subst}
use Rattle.std.proofs.lemmas.List.{drop_all}
use Rattle.nbt_text.specs.Texts.{texts}
use Rattle.nbt_front.specs.Files.{Reads}
use Rattle.nbt_front.proofs.LineByLine.{one_more, later_fault, refused_here, all_read}
use Rattle.nbt_front.proofs.reading.read_fixed.Goals as goal

pub lines-preserved : goal.lines-preserved
lines-preserved c = record {
  so_far = one_more c.as_slice-lines.result.now c.lines.place c.lines.names _ c.lines-test.true c.take_line.new.names c.in-Ok.ensures.ok c.lines.invariant.so_far;
  failing = later_fault c.as_slice-lines.result.now c.lines.place c.lines.names _ c.lines-test.true c.take_line.new.names c.in-Ok.ensures.ok c.lines.invariant.failing;
}

pub returns-in-Err-clause-fault : goal.returns-in-Err-clause-fault
returns-in-Err-clause-fault c =
    rw c.fault_at.ensures (refused_here c.as_slice-lines.result.now c.lines.place c.lines.names _ c.lines-test.true c.args.text.now (ap texts c.as_slice-lines.ensures.value ∙ c.in_ok-lines.ensures) c.in-Err.refused
    c.in-Err.ensures.err c.lines.invariant.failing)

pub returns-clause-names : goal.returns-clause-names
returns-clause-names c =
    subst (λ (ls : List (List ℕ)). Reads [] ls c.lines.names) (ap texts c.as_slice-lines.ensures.value ∙ c.in_ok-lines.ensures)
    (all_read c.as_slice-lines.result.now c.lines.place c.lines.names (drop_all c.lines.place c.as_slice-lines.result.now c.lines-test.false) c.lines.invariant.so_far)
