use Rattle.std.proofs.Common.{◌∙◌, List, ℕ, ◌++◌, ap}
use Rattle.std.proofs.lemmas.Result.{err_from_is_err_and}
use Rattle.nbt_text.specs.Lines.{one_line}
use Rattle.nbt_store.specs.DiskStores.{IsNewLine, beside_in}
use Rattle.nbt_store.proofs.Asking.{line_added, line_not_added}
use Rattle.nbt_store.proofs.disk_store.write_line.Goals as goal

pub returns-in_err-append : goal.returns-in_err-append
returns-in_err-append g c =
    let wrote = c.in_ok-next.ensures in
    let line : IsNewLine c.as_bytes.result.now c.args.sum c.args.change.now c.in_ok-next.next =
    record { line = wrote.0; says = wrote.1; is_line = wrote.2; octets_are = c.as_bytes.ensures.value ∙ wrote.3 ∙ ap (λ (o : List ℕ). o ++ one_line wrote.0) c.in_ok-line.ensures.bytes } in
    let p = err_from_is_err_and c.from_residual-in_err-append.result c.from_residual-in_err-append.ensures.1 in
    rw p.1 (λ next. line_not_added g.D.Disk.does c.args.disk.now c.append.new.self c.as_bytes.result.now c.args.sum c.in_ok-next.next c.args.change.now (beside_in c.args.draft.now) next line (rw c.in_err-append.was at c.append.ensures))

pub returns : goal.returns
returns g c =
    let wrote = c.in_ok-next.ensures in
    let line : IsNewLine c.as_bytes.result.now c.args.sum c.args.change.now c.in_ok-next.next =
    record { line = wrote.0; says = wrote.1; is_line = wrote.2; octets_are = c.as_bytes.ensures.value ∙ wrote.3 ∙ ap (λ (o : List ℕ). o ++ one_line wrote.0) c.in_ok-line.ensures.bytes } in
    line_added g.D.Disk.does c.args.disk.now c.append.new.self c.as_bytes.result.now c.args.sum c.in_ok-next.next c.args.change.now (beside_in c.args.draft.now) (beside_in c.add_to.new.draft) line c.in_ok-add_to.ensures (rw c.in_ok-append.was at c.append.ensures)
