use Rattle.std.specs.String.{string_bytes}
use Rattle.nbt_text.proofs.Joining.{OnOk-map, three_parts}
use Rattle.nbt_text.specs.Address.{dotted}
use Rattle.nbt_lists.specs.Written.{between}
use Rattle.nbt_lists.proofs.import.write_entry.Goals as goal

pub returns : goal.returns
returns c =
    let word = c.in_ok-write_word.ensures in
    OnOk-map c.write_dotted.result c.write_dotted.ensures (λ e. (
      word.0,
      word.1,
      three_parts (string_bytes c.args.out.now) word.0 (between c.args.entry.now.kind) (dotted c.args.entry.now.addr) _ _ _ word.2 c.in_ok-write_between.ensures e,
    ))
