use Rattle.std.proofs.Common.{◌++◌, Option, refl, subst}
use Rattle.std.specs.String.{string_bytes}
use Rattle.nbt_text.proofs.Joining.{OnOk-map, three_parts}
use Rattle.nbt_host.specs.TurnLines.{IsLineIf}
use Rattle.nbt_host.specs.declared.event.Event.{Event}
use Rattle.nbt_host.proofs.turn_lines.write_goal.Goals as goal

pub returns : goal.returns
returns c =
    let name = c.args.goal.now.want.name in
    let lapse = c.in_ok-write_if.ensures in
    let news = c.in_ok-write_if-2.ensures in
    OnOk-map c.write_if-3.result c.write_if-3.ensures (λ again. (
      lapse.0 ++ news.0 ++ again.0,
      record {
        lapse = lapse.0;
        news = news.0;
        again = again.0;
        lapse_is = subst (λ (e : Option Event). IsLineIf c.args.second name e lapse.0) c.lapse_of.ensures lapse.1;
        news_is = subst (λ (e : Option Event). IsLineIf c.args.second name e news.0) c.news_of.ensures news.1;
        again_is = subst (λ (e : Option Event). IsLineIf c.args.second name e again.0) c.again_of.ensures again.1;
        text_is = refl;
      },
      three_parts (string_bytes c.args.out.now) lapse.0 news.0 again.0 _ _ _ lapse.2 news.2 again.2,
    ))
