use Rattle.std.proofs.Common.{◌++◌, ℕ, refl, subst}
use Rattle.std.specs.String.{string_bytes}
use Rattle.nbt_text.proofs.Joining.{OnOk-map, four_parts}
use Rattle.nbt_text.specs.Lines.{newline}
use Rattle.nbt_log.specs.Dates.{IsTimeText}
use Rattle.nbt_log.specs.Leases.{machine}
use Rattle.nbt_log.proofs.leases.write_lease.Goals as goal

pub returns : goal.returns
returns c =
    let word = c.in_ok-write_word.ensures in
    let end = c.in_ok-write_time.ensures in
    let middle = machine c.args.lease.now in
    OnOk-map c.end_line.result c.end_line.ensures (λ e. (
      word.0 ++ middle ++ end.0 ++ newline,
      record { word = word.0; end = end.0; word_is = word.1; end_is = subst (λ (second : ℕ). IsTimeText second end.0) c.second_at.ensures end.1; text_is = refl },
      four_parts (string_bytes c.args.out.now) word.0 middle end.0 newline _ _ _ _ word.2 c.in_ok-write_machine.ensures end.2 e,
    ))
