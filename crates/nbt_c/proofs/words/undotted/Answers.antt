use Rattle.nbt_c.proofs.Common.{◌≡◌, [], List, ℕ, sym, subst, PrintsLabels, nothing_left_over, dotted}
use Rattle.nbt_c.proofs.Forms.{behind_dot}
use Rattle.nbt_c.proofs.words.undotted.Goals as goal

pub returns-in-Some : goal.returns-in-Some
returns-in-Some c = λ scope prints. subst (PrintsLabels scope) (sym (behind_dot scope c.args.labels.now c.in-Some.rest.now _ prints c.in-Some.ensures.cases.0)) prints

pub returns-in-None : goal.returns-in-None
returns-in-None c = λ scope prints.
    let none : c.args.labels.now ≡ [] = nothing_left_over c.args.labels.now c.in-None.ensures.cases in
    subst (λ (text : List ℕ). PrintsLabels scope (dotted text)) (sym none) (subst (PrintsLabels scope) none prints)
