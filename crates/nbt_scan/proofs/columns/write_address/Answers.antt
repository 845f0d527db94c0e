use Rattle.std.proofs.Common.{◌++◌, ◌∙◌, ap, List, ℕ}
use Rattle.std.specs.String.{string_bytes}
use Rattle.nbt_text.proofs.Joining.{OnOk-map}
use Rattle.nbt_text.specs.Address.{dotted}
use Rattle.nbt_scan.specs.Cells.{column}
use Rattle.nbt_scan.proofs.columns.write_address.Goals as goal

pub returns : goal.returns
returns c =
    let out = string_bytes c.args.out.now in
    OnOk-map c.write_column.result c.write_column.ensures (λ e. e ∙ ap (λ (t : List ℕ). out ++ column 15 t) (c.as_str.ensures.value ∙ c.in_ok-write_dotted.ensures ∙ ap (λ (front : List ℕ). front ++ dotted c.args.ip) c.new-word.ensures.bytes))
