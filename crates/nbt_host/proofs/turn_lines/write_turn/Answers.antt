use Rattle.std.proofs.Common.{◌++◌, Bool, refl, subst}
use Rattle.std.specs.String.{string_bytes}
use Rattle.nbt_text.proofs.Joining.{OnOk-map, three_parts}
use Rattle.nbt_host.specs.TurnLines.{IsSilenceLine}
use Rattle.nbt_host.proofs.turn_lines.write_turn.Goals as goal

pub returns : goal.returns
returns c =
    let sleep = c.in_ok-write_sleep.ensures in
    let silence = c.in_ok-write_silence.ensures in
    OnOk-map c.write_goals.result c.write_goals.ensures (λ names. (
      sleep.0 ++ silence.0 ++ names.0,
      record {
        sleep = sleep.0;
        silence = silence.0;
        names = names.0;
        sleep_is = sleep.1;
        silence_is = subst (λ (silent : Bool). IsSilenceLine c.args.second c.args.server silent silence.0) c.is_any_silent.ensures silence.1;
        names_are = names.1;
        text_is = refl;
      },
      three_parts (string_bytes c.args.out.now) sleep.0 silence.0 names.0 _ _ _ sleep.2 silence.2 names.2,
    ))
