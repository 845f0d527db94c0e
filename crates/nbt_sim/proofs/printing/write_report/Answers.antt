use Rattle.std.proofs.Common.{◌∙◌, ◌++◌, [], sym, append_assoc}
use Rattle.std.proofs.lemmas.List.{append-nil}
use Rattle.std.proofs.lemmas.Result.{on_ok_weaker}
use Rattle.std.specs.String.{string_bytes}
use Rattle.nbt_text.specs.Lines.{newline}
use Rattle.nbt_sim.specs.Script.{holders_line, prints_nothing, prints_outcome, prints_holders, prints_kept, prints_timely}
use Rattle.nbt_sim.specs.Words.{kept_word, timely_word}
use Rattle.nbt_sim.proofs.printing.write_report.Goals as goal

pub returns-in-Quiet : goal.returns-in-Quiet
returns-in-Quiet c = ([], sym (append-nil _), rw c.in-Quiet.is (prints_nothing c.args.instruction.now))

pub returns-in-Happens : goal.returns-in-Happens
returns-in-Happens c =
    rw (c.in-Event.is, c.in-Happens.is) (on_ok_weaker c.write_outcome.result
    (λ h. (h.0 ++ newline, h.1 ∙ append_assoc (string_bytes c.args.out.now) h.0 newline, prints_outcome c.in-Happens.event c.in-Event.outcome h.0 h.2)) c.write_outcome.ensures)

pub returns-in-Holders-instruction : goal.returns-in-Holders-instruction
returns-in-Holders-instruction c =
    rw (c.in-Holders.is, c.in-Holders-instruction.is) (on_ok_weaker c.write_holders.result
    (λ h. (holders_line h.0 c.in-Holders.holders.items, rw c.as_slice.ensures.value at h.2, prints_holders c.in-Holders-instruction.name h.0 c.in-Holders.holders h.1)) c.write_holders.ensures)

pub returns-in-Kept : goal.returns-in-Kept
returns-in-Kept c =
    rw c.in-Kept.is (on_ok_weaker c.write_kept.result
    (λ h. (kept_word c.in-Kept.kept ++ newline, h ∙ append_assoc (string_bytes c.args.out.now) (kept_word c.in-Kept.kept) newline, prints_kept c.args.instruction.now c.in-Kept.kept)) c.write_kept.ensures)

pub returns-in-Timely : goal.returns-in-Timely
returns-in-Timely c =
    rw c.in-Timely.is (on_ok_weaker c.write_timely.result
    (λ h. (timely_word c.in-Timely.timely ++ newline, h ∙ append_assoc (string_bytes c.args.out.now) (timely_word c.in-Timely.timely) newline, prints_timely c.args.instruction.now c.in-Timely.timely)) c.write_timely.ensures)
