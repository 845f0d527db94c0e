use Rattle.std.proofs.Common.{ℕ, Bool, true, false, List, Option, Some, refl}
use Rattle.std.specs.Prelude.{IsTrue, IsFalse}
use Rattle.nbt_log.specs.declared.dates.Dates.{Dates}
use Rattle.nbt_nbns.specs.Journaling.{LogsIn, no_log, logged, was_refused}
use Rattle.nbt_nbns.specs.Logging.{LoggerValue, Prints, PrintsOrDrops}
use Rattle.nbt_nbns.specs.declared.staying.Shown.{Shown}
use Rattle.nbt_nbns.proofs.journal.log_in.Goals as goal

-- a line that was printed, or that may be dropped
logs : (dates : Dates) (shown : Shown) (old_text text : Option (List ℕ)) (old new : LoggerValue) (done : Bool) → (IsTrue done → Prints old dates shown.at shown.entry old_text new text)
    → (IsFalse done → PrintsOrDrops old dates shown.at shown.entry old_text new text) → LogsIn dates shown old_text (Some old) (Some new) text
logs dates shown old_text text old new true printed refused = logged old new text (printed refl)
logs dates shown old_text text old new false printed refused = was_refused old new text (refused refl)

pub returns-in-Some : goal.returns-in-Some
returns-in-Some g c =
    rw c.in-Some.is
    (logs c.args.dates c.args.shown.now (g.W.Write.contents c.args.writer.now) (g.W.Write.contents c.log.new.writer) c.in-Some.logger c.log.new.self c.log.result c.log.ensures.printed c.log.ensures.refused)

pub returns-in_default : goal.returns-in_default
returns-in_default g c = rw c.in_default.is no_log
