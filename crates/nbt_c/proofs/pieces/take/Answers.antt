use Rattle.nbt_c.proofs.Common.{ℕ, Err, sym, subst, TakesFor}
use Rattle.nbt_session.specs.declared.fault.StreamFault.{StreamFault}
use Rattle.nbt_session.specs.Parts.{TakesPart, part_if}
use Rattle.nbt_c.specs.declared.pieces.CPart.{CPart}
use Rattle.nbt_c.specs.Sessions as is
use Rattle.nbt_c.proofs.pieces.take.Goals as goal

pub returns-in-Ok : goal.returns-in-Ok
returns-in-Ok c =
    subst (λ (part : CPart). TakesFor c.args.piece.now c.args.pieces.now c.args.part.now 0 part c.in-Ok.count c.take.new.self) (sym c.report.ensures)
    (is.TakesFor.takes c.in-Ok.count (part_if c.in-Ok.found) c.take.new.self c.in-Ok.ensures.takes)

pub returns-in-Err-Malformed : goal.returns-in-Err-Malformed
returns-in-Err-Malformed c =
    subst (λ (n : ℕ). TakesFor c.args.piece.now c.args.pieces.now c.args.part.now n c.args.part.now c.in-Err-Malformed.fault.place c.take.new.self) (sym c.number.ensures)
    (is.TakesFor.is_refused c.in-Err-Malformed.fault c.take.new.self
    (subst (λ (fault : StreamFault). TakesPart c.args.piece.now c.args.pieces.now (Err fault) c.take.new.self) c.in-Err-Malformed.field-0-is c.in-Err-Malformed.ensures.takes))
