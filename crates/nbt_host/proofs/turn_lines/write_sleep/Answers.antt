use Rattle.std.proofs.Common.{[], ◌++◌, codes, refl, sym, append-nil}
use Rattle.std.specs.String.{string_bytes}
use Rattle.nbt_text.proofs.Joining.{OnOk-map, three_parts}
use Rattle.nbt_text.specs.Lines.{newline}
use Rattle.nbt_host.proofs.turn_lines.write_sleep.Goals as goal

pub returns-then-not-slept : goal.returns-then-not-slept
returns-then-not-slept c = rw c.if-not-slept.true ([], refl, sym (append-nil (string_bytes c.args.out.now)))

pub returns : goal.returns
returns c =
    let time = c.in_ok-write_time.ensures in
    let words = codes " slept, or its clock was set: asks anew" in
    rw c.if-not-slept.false (OnOk-map c.end_line.result c.end_line.ensures (λ e. (
      time.0 ++ words ++ newline,
      (time.0, time.1, refl),
      three_parts (string_bytes c.args.out.now) time.0 words newline _ _ _ time.2 c.in_ok-push_str.ensures.bytes e,
    )))
