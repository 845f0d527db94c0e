use Rattle.std.proofs.Common.{◌++◌, refl, ◌∙◌, append_assoc}
use Rattle.nbt_text.proofs.Joining.{OnOk-map}
use Rattle.nbt_log.specs.Summary.{more_text}
use Rattle.nbt_log.proofs.summary.write_more.Goals as goal

pub returns : goal.returns
returns c =
    let time = c.in_ok-write_time.ensures in
    OnOk-map c.writeln.result c.writeln.ensures.bytes (λ e. (
      time.0 ++ more_text c.args.kind c.args.left_out,
      (time.0, time.1, refl),
      e ∙ rw (time.2, c.verb_of-verb.ensures) (simp append_assoc),
    ))
