use Rattle.std.proofs.Common.{ℕ, ◌∷◌, sym, ap, ◌∙◌, arith}
use Rattle.nbt_session.specs.Stream.{type_bad, flags_bad}
use Rattle.nbt_session.proofs.Cells.{one_cell, two_cells, whole_header, header_is, length_wrong, header_sound}
use Rattle.nbt_session.proofs.header.frame_of.Goals as goal
use Rattle.nbt_session.proofs.header.frame_of.Goals.{then-count-least-via-then-count-least, then-count-least-via-else-count-least+then-count-most}

pub returns-in_default-of-clause-fault : goal.returns-in_default-of-clause-fault
returns-in_default-of-clause-fault c =
    let cells = one_cell c.args.header.now c.in-Some.field-0.now c.in-Some.ensures.lookup.0 c.in-Some.ensures.lookup.1 in
    rw c.bad.ensures (type_bad c.in-Some.field-0.now cells.0 cells.1 c.in_default-of.ensures.none)

pub returns-then-flags-gt-E-clause-fault : goal.returns-then-flags-gt-E-clause-fault
returns-then-flags-gt-E-clause-fault c =
    let cells = two_cells c.args.header.now c.in-Some.field-0.now c.in-Some-get.field-0.now c.in-Some.ensures.lookup.0 c.in-Some.ensures.lookup.1 c.in-Some-get.ensures.lookup.0 c.in-Some-get.ensures.lookup.1 in
    rw c.bad-then-flags-gt-E.ensures
    (flags_bad c.in-Some-of.kind c.in-Some-get.field-0.now cells.0 (cells.1 ∙ ap (λ (x : ℕ). x ∷ c.in-Some-get.field-0.now ∷ cells.0) (sym c.in-Some-of.ensures.found)) (omega arith))

pub returns-then-count-least-clause-fault : goal.returns-then-count-least-clause-fault
returns-then-count-least-clause-fault c =
    let spells = whole_header c.args.header.now c.in-Some-of.kind c.in-Some.field-0.now c.in-Some-get.field-0.now c.from.result c.from-2.result (λ k. omega (arith, c.type_inv.header k)) (omega arith)
    c.in-Some.ensures.lookup.0 c.in-Some.ensures.lookup.1 c.in-Some-get.ensures.lookup.0 c.in-Some-get.ensures.lookup.1 c.in-Some-of.ensures.found (omega arith) (c.from-2.ensures ∙ c.read_word.ensures) in
    rw c.bad-then-count-least.ensures (length_wrong c.args.header.now c.in-Some-of.kind c.in-Some-get.field-0.now _ (omega arith) spells (λ has. elim c.then-count-least.branch [ then-count-least-via-then-count-least w ↦ omega (arith, has.0) | then-count-least-via-else-count-least+then-count-most w ↦ omega (arith, has.1) ]))

pub returns-clause-frame : goal.returns-clause-frame
returns-clause-frame c =
    let spells = whole_header c.args.header.now c.in-Some-of.kind c.in-Some.field-0.now c.in-Some-get.field-0.now c.from.result c.from-2.result (λ k. omega (arith, c.type_inv.header k)) (omega arith)
    c.in-Some.ensures.lookup.0 c.in-Some.ensures.lookup.1 c.in-Some-get.ensures.lookup.0 c.in-Some-get.ensures.lookup.1 c.in-Some-of.ensures.found (omega arith) (c.from-2.ensures ∙ c.read_word.ensures) in
    (header_is c.args.header.now c.in-Some-of.kind c.in-Some-get.field-0.now _ (omega arith) spells, (omega arith, omega arith))

pub returns-clause-sound : goal.returns-clause-sound
returns-clause-sound c =
    let spells = whole_header c.args.header.now c.in-Some-of.kind c.in-Some.field-0.now c.in-Some-get.field-0.now c.from.result c.from-2.result (λ k. omega (arith, c.type_inv.header k)) (omega arith)
    c.in-Some.ensures.lookup.0 c.in-Some.ensures.lookup.1 c.in-Some-get.ensures.lookup.0 c.in-Some-get.ensures.lookup.1 c.in-Some-of.ensures.found (omega arith) (c.from-2.ensures ∙ c.read_word.ensures) in
    header_sound c.args.header.now c.in-Some-of.kind c.in-Some-get.field-0.now _ (omega arith) spells (omega arith, omega arith)
