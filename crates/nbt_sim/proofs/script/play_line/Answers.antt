use Rattle.std.proofs.Common.{[], sym}
use Rattle.std.proofs.lemmas.List.{append-nil}
use Rattle.nbt_sim.specs.Script.{is_blank, is_done, is_unreadable, says_nothing, says_what_does_not_fit}
use Rattle.nbt_sim.proofs.script.play_line.Goals as goal

pub returns-in-Blank : goal.returns-in-Blank
returns-in-Blank c = ([], sym (append-nil _), is_blank (rw c.in-Blank.is at c.in_ok-parse_line.ensures))

pub returns-in-Unreadable : goal.returns-in-Unreadable
returns-in-Unreadable c =
    let none = rw c.in-Unreadable.is at c.in_ok-parse_line.ensures in
    ([], sym (append-nil _), is_unreadable _ none.0 (says_nothing none.1))

pub returns-in_default : goal.returns-in_default
returns-in_default c =
    let said = rw c.in-Says.is at c.in_ok-parse_line.ensures in
    ([], sym (append-nil _), is_unreadable _ said.0 (says_what_does_not_fit c.in-Says.instruction said.1 (rw c.in_default.is at c.in_ok-report-in-Says.ensures)))

pub returns-in_ok-write_report-in-Says : goal.returns-in_ok-write_report-in-Says
returns-in_ok-write_report-in-Says c =
    let said = rw c.in-Says.is at c.in_ok-parse_line.ensures in
    let wrote = c.in_ok-write_report-in-Says.ensures in
    (wrote.0, wrote.1, is_done c.in-Says.instruction c.in-Some.report _ wrote.0 said.0 said.1 (rw c.in-Some.is at c.in_ok-report-in-Says.ensures) wrote.2)
