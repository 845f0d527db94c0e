use Rattle.std.proofs.Common.{◌≡◌, ◌++◌, ◌∙◌, ℕ, List, None, IfOk, ap, subst}
use Rattle.std.specs.String.{string_bytes}
use Rattle.nbt_text.specs.Lines.{lines}
use Rattle.nbt_text.specs.Texts.{texts}
use Rattle.nbt_sim.specs.Script.{Plays}
use Rattle.nbt_sim.proofs.script.play.Goals as goal

pub returns : goal.returns
returns c =
    let same : texts c.as_slice.result.now ≡ lines c.args.script.now = ap texts c.as_slice.ensures.value ∙ c.in_ok-lines.ensures in
    subst (λ (ls : List (List ℕ)). IfOk c.play_lines.result (λ well. (text : List ℕ) × (string_bytes c.play_lines.new.out ≡ string_bytes c.args.out.now ++ text) × Plays 1 None ls well text)) same c.play_lines.ensures
