use Rattle.std.proofs.Common.{◌++◌, ◌∙◌, ap, List, ℕ}
use Rattle.std.specs.String.{string_bytes}
use Rattle.nbt_text.proofs.Joining.{OnOk-map}
use Rattle.nbt_scan.specs.Cells.{column}
use Rattle.nbt_scan.proofs.columns.write_name_column.Goals as goal

pub returns : goal.returns
returns c =
    let out = string_bytes c.args.out.now in
    let name = c.in_ok-write_name.ensures in
    OnOk-map c.write_column.result c.write_column.ensures (λ e.
    (name.0, name.1, e ∙ ap (λ (t : List ℕ). out ++ column 15 t) (c.as_str.ensures.value ∙ name.2 ∙ ap (λ (front : List ℕ). front ++ name.0) c.new-word.ensures.bytes)))
