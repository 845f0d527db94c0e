use Rattle.std.proofs.Common.{◌++◌, arith}
use Rattle.std.specs.Prelude.{codes}
use Rattle.std.specs.String.{string_bytes}
use Rattle.nbt_text.proofs.Joining.{OnOk-map}
use Rattle.nbt_scan.specs.Json.{of_none}
use Rattle.nbt_scan.proofs.Objects.{listed, when_ok}
use Rattle.nbt_scan.proofs.json.write_list.Goals as goal

pub returns-in-Some : goal.returns-in-Some
returns-in-Some c =
    let split = c.in-Some.ensures.cases in
    OnOk-map c.write_some.result c.write_some.ensures (λ e. (
      codes "[" ++ e.0 ++ e.2 ++ codes "]",
      listed c.args.names.now c.in-Some.name.now c.in-Some.others.now e.0 e.2 split.0 split.1 (omega (arith, split.2)) e.1 e.3,
      e.4,
    ))

pub returns-in-None : goal.returns-in-None
returns-in-None c = OnOk-map c.push_str.result (when_ok (string_bytes c.args.out.now) (string_bytes c.push_str.new.self) (codes "[]") c.push_str.result c.push_str.ensures.bytes) (λ e. (codes "[]", of_none c.args.names.now c.in-None.ensures.cases, e))
