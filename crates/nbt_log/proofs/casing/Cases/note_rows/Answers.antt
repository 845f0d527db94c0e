use Rattle.std.proofs.Common.{◌≡◌, ◌∙◌, [], ◌∷◌, ◌++◌, refl, sym, ap, subst, append-nil, append_assoc}
use Rattle.std.proofs.lemmas.List.{nil_from_length}
use Rattle.nbt_lease.specs.Lease.{Rows}
use Rattle.nbt_log.specs.Inner.Casing.{KnowsAll}
use Rattle.nbt_log.proofs.casing.Cases.note_rows.Goals as goal

pub rows-init : goal.rows-init
rows-init c = ([], refl, λ before knows. subst (λ (rows : Rows). KnowsAll c.args.now rows c.args.self.now) (sym (append-nil before)) knows)

pub rows-preserved : goal.rows-preserved
rows-preserved c =
    let old = c.rows.invariant in
    let row = c.in-Some.row.now in
    let others = c.in-Some.others.now in (
      old.0 ++ row ∷ [],
      append_assoc old.0 (row ∷ []) others ∙ (ap (λ (z : Rows). old.0 ++ z) (sym c.in-Some.ensures.cases.0) ∙ old.1),
      λ before knows. subst (λ (rows : Rows). KnowsAll c.args.now rows c.note_row.new.self) (append_assoc before old.0 (row ∷ [])) (c.in_ok-note_row.ensures (before ++ old.0) (old.2 before knows)),
    )

pub returns : goal.returns
returns c =
    let old = c.rows.invariant in
    let all : old.0 ≡ c.args.rows.now = sym (append-nil old.0) ∙ (ap (λ (z : Rows). old.0 ++ z) (sym (nil_from_length c.rows.rest.now c.in_default.ensures.cases)) ∙ old.1) in
    λ before knows. subst (λ (rows : Rows). KnowsAll c.args.now (before ++ rows) c.rows.self) all (old.2 before knows)
