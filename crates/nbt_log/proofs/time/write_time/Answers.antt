use Rattle.std.proofs.Common.{◌≡◌, ℕ, Bool, Option, ◌++◌, ◌∙◌, subst}
use Rattle.jiff_fmt.specs.Text.{datetime_text, zulu_text}
use Rattle.nbt_text.proofs.Joining.{OnOk-map}
use Rattle.nbt_log.specs.Dates.{IsTimeText}
use Rattle.nbt_log.proofs.time.write_time.Goals as goal

pub returns : goal.returns
returns c =
    let printed = c.timestamp_text-printed.ensures in
    let time : IsTimeText c.args.second c.as_str-text.result.now = record {
      shown = printed.0;
      shown_is = printed.1 ∙ c.timestamp_of.ensures;
      text_is = c.as_str-text.ensures.value ∙ subst (λ (o : Bool × ℕ × Option ℕ). c.timestamp_text-printed.result.bytes ≡ datetime_text o.0 o.1 o.2 printed.0 ++ zulu_text o.0) c.new.ensures printed.2;
    } in
    OnOk-map c.write.result c.write.ensures.bytes (λ e. (c.as_str-text.result.now, time, e))
