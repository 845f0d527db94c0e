use Rattle.std.proofs.Common.{◌<◌, ℕ, List, subst, refl, arith}
use Rattle.nbt_text.proofs.Joining.{OnOk-map}
use Rattle.nbt_log.specs.Inner.Casing.{Notes}
use Rattle.nbt_log.proofs.Alike.{one_more_lives, one_more_over}
use Rattle.nbt_log.proofs.casing.Cases.note_row.Goals as goal

pub returns-then-get-row : goal.returns-then-get-row
returns-then-get-row c =
    let lives : c.args.now < c.args.row.now.1.end = omega arith in
    OnOk-map c.note.result c.note.ensures (λ notes rows knows.
    one_more_lives c.args.now rows c.args.row.now c.args.self.now c.note.new.self lives (subst (λ (o : List ℕ). Notes o c.args.self.now c.note.new.self) c.octets.ensures.value notes) knows)

pub returns-else-get-row : goal.returns-else-get-row
returns-else-get-row c = λ rows knows. one_more_over c.args.now rows c.args.row.now c.args.self.now c.args.self.now (λ lives. absurd (omega (arith, lives))) refl knows
