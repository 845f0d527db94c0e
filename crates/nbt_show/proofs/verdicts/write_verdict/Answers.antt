use Rattle.std.proofs.Common.{[], Some, sym, append_assoc}
use Rattle.std.proofs.lemmas.List.{append-nil}
use Rattle.nbt_show.specs.Verdicts.{PrintsVerdict, passed_over, passes, fails, unreadable}
use Rattle.nbt_text.specs.Lines.{verdict_line}
use Rattle.nbt_show.proofs.verdicts.write_verdict.Goals.{in-Vector, in-Vector-2, in-Unreadable}
use Rattle.nbt_show.proofs.verdicts.write_verdict.Goals as goal

pub returns-in-Blank : goal.returns-in-Blank
returns-in-Blank c = ([], sym (append-nil _), passed_over (rw c.in-Blank.is at c.in_ok-said.ensures))

pub returns : goal.returns
returns c =
    let verdict : PrintsVerdict c.args.number c.args.line.now (Some c.match-said.passes.0) (verdict_line c.args.number c.match-said.passes.1.now) = elim c.match-said.branch [
      | in-Vector w ↦
          let v = rw w.in-Vector.is at c.in_ok-said.ensures in
          rw w.passes-is (passes _ _ v.0 v.1 (w.holds.ensures.0 w.if-holds.true))
      | in-Vector-2 w ↦
          let v = rw w.in-Vector.is at c.in_ok-said.ensures in
          rw w.passes-is (fails _ _ v.0 v.1 (λ says. let holds = w.holds.ensures.1 says in cc))
      | in-Unreadable w ↦
          let none = rw w.in-Unreadable.is at c.in_ok-said.ensures in
          rw w.passes-is (unreadable none.0 none.1)
    ] in
    (verdict_line c.args.number c.match-said.passes.1.now, rw c.in_ok-writeln.ensures.bytes (simp append_assoc), verdict)
