use Rattle.std.proofs.Common.{◌≡◌, ◌∙◌, ℕ, List, IfOk, ap, subst}
use Rattle.nbt_text.specs.Lines.{lines}
use Rattle.nbt_text.specs.Texts.{texts}
use Rattle.nbt_sim.specs.Drawing.{EndsAt}
use Rattle.nbt_sim.proofs.picture.drawing.watch_script.Goals as goal

pub returns : goal.returns
returns c =
    let same : texts c.as_slice.result.now ≡ lines c.args.script.now = ap texts c.as_slice.ensures.value ∙ c.in_ok-lines.ensures in
    subst (λ (ls : List (List ℕ)). IfOk c.watch_lines.result (EndsAt ls)) same c.watch_lines.ensures
